use Rattle.std.specs.Prelude.{◌≡◌, ◌⊎◌, ◌↔◌, ℕ, ◌/◌, ◌%◌, ◌^◌, IsTrue, IsSome, IfSome, pos}
use Rattle.grid.specs.Position.{Position}
use Rattle.grid.specs.Cull.{IsCulled}
use Rattle.grid.specs.Pixels.{IsInBox}
use Rattle.grid.specs.Samples.{sample_position}
use Rattle.grid.specs.Triangle.{doubled_area, Covers}
use Rattle.grid.specs.declared.sample_count.SampleCount.{SampleCount}
use Rattle.shade.specs.Depth.{Passes}
use Rattle.shade.specs.declared.sample.Shaded.{Shaded}
use Rattle.shade.specs.declared.placed.Placed.{Placed}
use Rattle.shade.specs.Placed.{IsFragmentAt, Meets, Draws}
use Rattle.history.specs.Edge.{IsEdgeAt, FailsEdge}
use Rattle.history.specs.declared.reasons.Reasons.{Reasons}
use Rattle.history.specs.declared.event.Event.{Event}
use Rattle.history.specs.declared.event.Outcome.TheVariants.{Missed, DepthFailed, Drawn}

-- Bit s of the sample mask is clear.
abbrev pub IsMasked : Placed → ℕ → Type 0
IsMasked t s = t.state.sample_mask / 2 ^ s % 2 ≡ 0

-- Each reason why the triangle misses sample s of pixel (i, j) is reported exactly when it holds.
pub record AreReasons (t : Placed) (count : SampleCount) (i j s : ℕ) (r : Reasons) : Type 0 where
  pub area : r.area2 ≡ doubled_area t.tri.a t.tri.b t.tri.c
  pub culled : IsTrue r.culled ↔ IsCulled t.state.cull (doubled_area t.tri.a t.tri.b t.tri.c)
  pub zero_area : IsTrue r.zero_area ↔ (doubled_area t.tri.a t.tri.b t.tri.c ≡ pos 0)
  pub edge_ab : IsEdgeAt t.tri.a t.tri.b t.tri.c (sample_position i j s count) r.ab
  pub edge_bc : IsEdgeAt t.tri.b t.tri.c t.tri.a (sample_position i j s count) r.bc
  pub edge_ca : IsEdgeAt t.tri.c t.tri.a t.tri.b (sample_position i j s count) r.ca
  pub outside_scissor : IsTrue r.outside_scissor ↔ (¬ IsInBox t.state.scissor i j)
  pub masked : IsTrue r.masked ↔ IsMasked t s

-- One of the reasons holds.
abbrev pub HasReason : Placed → SampleCount → ℕ → ℕ → ℕ → Type 0
HasReason t count i j s =
    IsCulled t.state.cull (doubled_area t.tri.a t.tri.b t.tri.c)
    ⊎ (doubled_area t.tri.a t.tri.b t.tri.c ≡ pos 0)
    ⊎ FailsEdge t.tri.a t.tri.b t.tri.c (sample_position i j s count)
    ⊎ FailsEdge t.tri.b t.tri.c t.tri.a (sample_position i j s count)
    ⊎ FailsEdge t.tri.c t.tri.a t.tri.b (sample_position i j s count)
    ⊎ (¬ IsInBox t.state.scissor i j)
    ⊎ IsMasked t s

-- The triangle covers p, and the depth of its fragment there passes the depth test against the stored depth.
pub record PassesDepth (t : Placed) (p : Position) (stored : ℕ) : Type 0 where
  pub covered : Covers t.tri.a t.tri.b t.tri.c p
  pub fragment : Shaded
  pub is_fragment : IsFragmentAt t p fragment
  pub passes : Passes t.state.merge.test fragment.z stored

-- The triangle covers p, and the depth of its fragment there fails the depth test against the stored depth.
pub record FailsDepth (t : Placed) (p : Position) (stored : ℕ) : Type 0 where
  pub covered : Covers t.tri.a t.tri.b t.tri.c p
  pub fragment : Shaded
  pub is_fragment : IsFragmentAt t p fragment
  pub fails : ¬ Passes t.state.merge.test fragment.z stored

-- What triangle t did to sample s of pixel (i, j).
-- An event has the reasons, the fragment if the triangle covers the sample, the outcome, and the sample before and after it.
pub record IsEvent (t : Placed) (count : SampleCount) (i j s : ℕ) (e : Event) : Type 0 where
  pub reasons : AreReasons t count i j s e.reasons
  pub covered : IsSome e.fragment ↔ Covers t.tri.a t.tri.b t.tri.c (sample_position i j s count)
  pub fragment : IfSome e.fragment (λ f. IsFragmentAt t (sample_position i j s count) f)
  pub fails_depth : IsTrue e.fails_depth ↔ FailsDepth t (sample_position i j s count) e.before.z
  pub missed : (e.outcome ≡ Missed) ↔ (¬ Meets t count i j s)
  pub depth_failed : (e.outcome ≡ DepthFailed) ↔ (Meets t count i j s × FailsDepth t (sample_position i j s count) e.before.z)
  pub drawn : (e.outcome ≡ Drawn) ↔ (Meets t count i j s × PassesDepth t (sample_position i j s count) e.before.z)
  pub draws : Draws t count i j s e.before e.after
