use Rattle.std.proofs.Common.{inr, refl, sym, ◌∙◌, true≢false}
use Rattle.shade.specs.Placed.{channel}
use Rattle.gradients.proofs.colour_planes.ColourPlanes.new.Goals as goal

pub returns-then-slopes : goal.returns-then-slopes
returns-then-slopes c t area s = record {
  of_red = λ w. c.new.ensures t.tri.a t.tri.b t.tri.c (channel t 0) area (inr (refl, (s.of_red w).bytes)) (s.of_red w).slope;
  of_green = λ w. c.new-2.ensures t.tri.a t.tri.b t.tri.c (channel t 1) area (inr (refl, (s.of_green w).bytes)) (s.of_green w).slope;
  of_blue = λ w. c.new-3.ensures t.tri.a t.tri.b t.tri.c (channel t 2) area (inr (refl, (s.of_blue w).bytes)) (s.of_blue w).slope;
  of_alpha = λ r. c.new-then-slopes.ensures t.tri.a t.tri.b t.tri.c (channel t 3) area (inr (refl, (s.of_alpha r).bytes)) (s.of_alpha r).slope;
}

pub returns-else-slopes : goal.returns-else-slopes
returns-else-slopes c t area s = record {
  of_red = λ w. c.new.ensures t.tri.a t.tri.b t.tri.c (channel t 0) area (inr (refl, (s.of_red w).bytes)) (s.of_red w).slope;
  of_green = λ w. c.new-2.ensures t.tri.a t.tri.b t.tri.c (channel t 1) area (inr (refl, (s.of_green w).bytes)) (s.of_green w).slope;
  of_blue = λ w. c.new-3.ensures t.tri.a t.tri.b t.tri.c (channel t 2) area (inr (refl, (s.of_blue w).bytes)) (s.of_blue w).slope;
  of_alpha = λ r. absurd (true≢false (sym (s.has_alpha r) ∙ c.if-slopes.false));
}
