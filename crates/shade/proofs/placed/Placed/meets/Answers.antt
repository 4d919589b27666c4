use Rattle.std.proofs.Common.{◌≡◌, true, arith, rules, w64, to_z, of_z, ◌/◌, ◌%◌, ◌^◌}
use Rattle.std.proofs.lemmas.Int.{ints}
use Rattle.grid.specs.Triangle.{doubled_area}
use Rattle.shade.proofs.placed.Placed.meets.Goals as goal

pub returns : goal.returns
returns c =
    let t = c.args.self.now in
    let same : to_z w64 (of_z w64 c.area2.result) ≡ doubled_area t.tri.a t.tri.b t.tri.c = omega (arith, ints) in
    let dropped = rw same at c.drops.ensures in (
      λ set. record {
        kept = λ culled. (let bad : c.drops.result ≡ true = dropped.1 culled in absurd (cc));
        covered = rw c.sample_at.ensures at (c.covers.ensures.0 c.if-not-covers.false);
        in_scissor = c.has.ensures.0 c.if-not-has.false;
        in_mask = search rules;
      },
      λ m. let set : t.state.sample_mask / 2 ^ c.args.s % 2 ≡ 1 = m.in_mask in search rules,
    )
