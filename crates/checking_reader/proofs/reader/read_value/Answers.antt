use Rattle.std.proofs.Common.{map}
use Rattle.std.proofs.lemmas.Result.{err_from_is_err_and}
use Rattle.serde_json.specs.View.{view, items_view}
use Rattle.draw_list.specs.Listing.{draw_listing}
use Rattle.checking_reader.proofs.Headed.{headed}
use Rattle.list_json.proofs.Accepted.{listing_within}
use Rattle.list_json.proofs.Passes.{value_passes}
use Rattle.checking_reader.proofs.Reached.{reaches}
use Rattle.checking_reader.proofs.reader.read_value.Goals as goal

pub within_limits-requires : goal.within_limits-requires
within_limits-requires c =
    let draws = rw c.picture_box-picture.ensures at c.in_ok-draws.ensures.reported.1 in
    listing_within (view c.args.value.now) _ (headed (view c.args.value.now) c.in_ok-header.header (map draw_listing c.in_ok-draws.draws.items) c.in_ok-header.ensures.1 draws.0 draws.1)

pub returns-clause-reported : goal.returns-clause-reported
returns-clause-reported c =
    let value = view c.args.value.now in
    let header = c.in_ok-header.ensures in
    let draws = rw c.picture_box-picture.ensures at c.in_ok-draws.ensures.reported.1 in (
      value_passes value (items_view c.in_ok-header.header.draws.now) header.1.draws header.0 c.in_ok-draws.ensures.reported.0,
      record {
        listing = _;
        is = headed value c.in_ok-header.header (map draw_listing c.in_ok-draws.draws.items) header.1 draws.0 draws.1;
        scene = c.in_ok-within_limits.ensures;
      },
    )

pub returns-in_err-draws-clause-reached : goal.returns-in_err-draws-clause-reached
returns-in_err-draws-clause-reached c =
    let reported = c.in_ok-header.ensures in
    let p = err_from_is_err_and c.from_residual-in_err-draws.result c.from_residual-in_err-draws.ensures.1 in
    rw (p.1, p.2) (reaches (view c.args.value.now) c.in_ok-header.header.draws.now c.in_err-draws.field-0.0 reported.1.draws reported.0 c.in_err-draws.ensures.reached)
