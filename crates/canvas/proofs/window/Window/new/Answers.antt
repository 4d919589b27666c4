use Rattle.std.proofs.Common.{rules, IsSome, sym, subst, ◌<◌, length, true≢false}
use Rattle.std.proofs.lemmas.List.Elements.{AllWithin-more}
use Rattle.std.proofs.lemmas.Option.{get_or_from_slice_get}
use Rattle.canvas.specs.Window.{CanMove}
use Rattle.canvas.proofs.window.Window.new.Goals as goal

pub loop-number-preserved : goal.loop-number-preserved
loop-number-preserved g c =
    let can = CanMove c.args.origin.x c.args.origin.y in
    let ts = g.S.Triangles.listed c.args.source.now in
    let t = c.triangle.result in
    let some : IsSome c.seen.result = search rules in
    AllWithin-more can ts 0 c.loop-number.number c.loop-number.invariant (λ d. subst can (sym (get_or_from_slice_get ts c.loop-number.number t d c.triangle.ensures)) (c.seen.ensures.some.0 some))

pub returns-then-is_none-clause-some : goal.returns-then-is_none-clause-some
returns-then-is_none-clause-some g c = (
  λ e k d less. absurd (true≢false (sym e)),
  λ all.
      let can = CanMove c.args.origin.x c.args.origin.y in
      let ts = g.S.Triangles.listed c.args.source.now in
      let n = c.loop-number.number in
      let t = c.triangle.result in
      let less : n < length ts = search rules in
      let some : IsSome c.seen.result = c.seen.ensures.some.1 (subst can (get_or_from_slice_get ts n t t c.triangle.ensures) (all n t less)) in
      search rules,
)
