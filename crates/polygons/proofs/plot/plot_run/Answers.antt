use Rattle.std.proofs.Common.{◌≡◌, sym, ap, ◌∙◌, arith, ◌-◌, map, length}
use Rattle.std.proofs.lemmas.List.Elements.{All-get_or}
use Rattle.grid.specs.Position.{Position, IsInGuardBand}
use Rattle.polygons.specs.Polygon.{path_end}
use Rattle.polygons.specs.Rings.{position_of}
use Rattle.polygons.specs.Rows.{direction}
use Rattle.polygons.specs.Strip.{strip_sample}
use Rattle.polygons.proofs.Plotted.{plotted_none, plotted_on}
use Rattle.polygons.proofs.RunBoxes.{zeros, path_last, no_path, no_end}
use Rattle.polygons.proofs.plot.plot_run.Goals as goal

pub returns-in-empty : goal.returns-in-empty
returns-in-empty g c = record {
  plotted = plotted_none c.args.starts.now.strip _ c.args.cells.now (no_path c.args.from c.args.corners.now c.in-empty.len_below);
  end = no_end c.args.from c.args.corners.now c.in-empty.len_below;
}

pub returns-in-len1-up : goal.returns-in-len1-up
returns-in-len1-up g c =
    let corners = c.args.corners.now in
    let to : c.at-end.result ≡ path_end c.args.from (map position_of corners) = c.at-end.ensures ∙ sym (path_last c.args.from corners c.in-len1-up.len_at_least) in
    let chord = c.requires.chord c.if-not-is_beside.false in
    record {
      plotted = plotted_on c.args.starts.now.strip _ _ _ _
          (λ s row k h l. ap (λ (q : Position). direction (record { a = c.args.from; b = q }) (strip_sample c.args.starts.now.strip s row k)) to ∙ sym (chord s row k h l)) c.plot_edge.ensures;
      end = to;
    }

pub at-end-requires : goal.at-end-requires
at-end-requires g c =
    let corners = c.args.corners.now in
    All-get_or (λ k. IsInGuardBand (position_of k)) corners (length corners - 1) zeros (omega (arith, c.in-len1-up.len_at_least)) c.requires.corners
