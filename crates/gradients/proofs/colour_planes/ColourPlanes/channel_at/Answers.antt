use Rattle.std.proofs.Common.{◌≡◌, sym, ◌∙◌, Bool, true, false, w32}
use Rattle.std.proofs.lemmas.Int.{to_z-of_z}
use Rattle.gradients.proofs.colour_planes.ColourPlanes.channel_at.Goals as goal
use Rattle.gradients.proofs.colour_planes.ColourPlanes.channel_at.Goals.{then-read, else-read}

pub returns-clause-each : goal.returns-clause-each
returns-clause-each c read is =
    elim c.if-read.branch [
      | then-read w ↦ rw w.result-is ((rw (to_z-of_z w32 c.args.x c.ranges.x, to_z-of_z w32 c.args.y c.ranges.y, w.channel_values-values.ensures.value) at w.values.ensures.each) is)
      | else-read w ↦ absurd (let no : c.args.read ≡ false = w.if-read.false in let bad : ◌≡◌ {A = Bool} false true = sym no ∙ read in cc)
    ]
