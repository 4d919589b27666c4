use Rattle.std.proofs.Common.{subst, ℤ, [], ◌∷◌}
use Rattle.std.proofs.lemmas.Int.{to_z-of_z}
use Rattle.cover.specs.Masks.{AreWordsWhere}
use Rattle.cover.proofs.Joined.{Passes, bits64, four_words}
use Rattle.cover.proofs.edge.Edge.planes.Goals as goal

pub returns : goal.returns
returns g c =
    let e = c.args.self.now in
    let n = c.args.count in
    subst (λ (z : ℤ). AreWordsWhere g.row.SIDE (Passes e z n) n c.args.from (c.plane_of_part.result ∷ c.plane_of_part-2.result ∷ c.plane_of_part-3.result ∷ c.plane_of_part-4.result ∷ [])) (to_z-of_z _ c.args.at c.ranges.at)
    (four_words g.row.SIDE (Passes e (bits64 c.args.at) n) n c.args.from _ _ _ _ (record { some = c.plane_of_part.ensures.some; none = c.plane_of_part.ensures.none }) (record { some = c.plane_of_part-2.ensures.some; none = c.plane_of_part-2.ensures.none })
    (record { some = c.plane_of_part-3.ensures.some; none = c.plane_of_part-3.ensures.none }) (record { some = c.plane_of_part-4.ensures.some; none = c.plane_of_part-4.ensures.none }))
