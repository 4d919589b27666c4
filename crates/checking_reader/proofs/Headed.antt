-- A top object and its draws.
use Rattle.std.proofs.Common.{◌≤◌, List, sum_by, arith}
use Rattle.serde_json.specs.Data.{Data}
use Rattle.serde_json.specs.View.{items_view}
use Rattle.draw_list.specs.Primitives.{count_of_triangles}
use Rattle.draw_list.specs.Listing.{DrawListing}
use Rattle.list_json.specs.Denotes.{Each, IsDraw, IsListing}
use Rattle.draw_list.specs.Picture.{picture_box}
use Rattle.list_json.proofs.Counts.{items_len_each}
use Rattle.checking_reader.specs.declared.header.Header.{Header}
use Rattle.checking_reader.specs.Header.{IsHeader}
use Rattle.checking_reader.proofs.ArrayElements.{items_len_view}

-- a top object with its draws is a draw list
pub headed : (d : Data) (h : Header) (draws : List DrawListing) → IsHeader d h → Each (IsDraw (picture_box h.target.width h.target.height)) (items_view h.draws.now) draws
    → sum_by (λ d. count_of_triangles d.primitives) draws ≤ 65536
    → IsListing d (record { width = h.target.width; height = h.target.height; count = h.target.count; clear = h.target.clear; output = h.target.output; draws = draws })
headed d h draws is parts few =
    let many = items_len_each _ _ _ parts in
    let all = items_len_view h.draws.now in
    record {
      object = is.object;
      keys = is.keys;
      width = is.width;
      height = is.height;
      samples = is.beginning.samples;
      clear = is.beginning.colour;
      clear_depth = is.beginning.depth;
      output = is.beginning.output;
      draws = record { array = is.array; parts = rw is.draws at parts; at_most = omega (arith, many, all, is.at_most) };
      triangles = few;
    }
