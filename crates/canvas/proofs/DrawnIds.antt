-- What triangles in the colours of their numbers make of a sample.
use Rattle.std.proofs.Common.{◌≡◌, ◌⊎◌, inl, inr, refl, sym, ap, ◌∙◌, ℕ, ◌+◌, ◌/◌, ◌%◌, ◌≤◌, List, [], ◌∷◌, ◌++◌, length, Option, None, Some, if◌then◌else◌, true, false, Bool, arith}
use Rattle.grid.specs.Position.{Position}
use Rattle.grid.specs.Samples.{sample_position}
use Rattle.grid.specs.Triangle.{Covers}
use Rattle.grid.specs.declared.sample_count.SampleCount.{SampleCount}
use Rattle.shade.specs.declared.sample.CanvasSample.{CanvasSample}
use Rattle.shade.specs.declared.placed.Placed.{Placed}
use Rattle.shade.specs.Depth.{Passes}
use Rattle.lanes.specs.Sources.{IsFlat}
use Rattle.shade.specs.Placed.{channel, IsInterpolated, Meets}
use Rattle.shade.specs.Canvas.{CanvasDraws, CanvasEnds}
use Rattle.shade.specs.declared.operands.Channel.TheVariants.{Colour}
use Rattle.shade.specs.Blend.{IsBlended}
use Rattle.shade.specs.Presets.{replace}
use Rattle.shade.specs.Merging.{operands_of}
use Rattle.shade.proofs.Blended.{replaced}
use Rattle.shade.proofs.Decided.{meets, passes}
use Rattle.shade.proofs.CanvasDrawn.{canvas_draws}
use Rattle.lanes.proofs.Flat.{flat_value}
use Rattle.shade.proofs.Values.{quotient-unique}
use Rattle.canvas.specs.Ids.{with_id, with_ids, PassesAt, IsLast, HasColourOfId, HasId}

-- ---- two samples with one depth
same_depth : (write : Bool) (z z' x x' y y' : ℕ) → z ≡ z' → x ≡ x' → y ≡ (if write then z else x) → y' ≡ (if write then z' else x') → y ≡ y'
same_depth true z z' x x' y y' e f g h = g ∙ e ∙ sym h
same_depth false z z' x x' y y' e f g h = g ∙ f ∙ sym h

module _ (t : Placed) (n : ℕ) (count : SampleCount) (i j s : ℕ) where
  abbrev u : Placed
  u = with_id t n

  meets_too : Meets t count i j s → Meets u count i j s
  meets_too m = record { kept = m.kept; covered = m.covered; in_scissor = m.in_scissor; in_mask = m.in_mask }

  meets_also : Meets u count i j s → Meets t count i j s
  meets_also m = record { kept = m.kept; covered = m.covered; in_scissor = m.in_scissor; in_mask = m.in_mask }

  -- what the triangle itself, and what it in its number makes of two samples with one depth
  pub record Step (start x : CanvasSample) (old new next : CanvasSample) : Type 0 where
    pub depth : next.z ≡ new.z
    pub case : (PassesAt t count i j s old × HasColourOfId n next) ⊎ ((¬ PassesAt t count i j s old) × (next ≡ x))

  missed_step : (start x old new next : CanvasSample) → x.z ≡ old.z → ¬ Meets t count i j s → CanvasDraws t count i j s old new → CanvasDraws u count i j s x next → Step start x old new next
  missed_step start x old new next same none d e =
      let stays : next ≡ x = e.missed (λ m. none (meets_also m)) in
      let stays' : new ≡ old = d.missed none in
      record { depth = ap (λ (y : CanvasSample). y.z) stays ∙ same ∙ sym (ap (λ (y : CanvasSample). y.z) stays'); case = inr ((λ p. none p.meets), stays) }

  abbrev p : Position
  p = sample_position i j s count

  colour : (k v w : ℕ) → IsFlat (channel u k) v → Covers t.tri.a t.tri.b t.tri.c p → IsInterpolated u p (channel u k) w → w ≡ v
  colour k v w flat covers is = quotient-unique _ _ w v is (flat_value u p (channel u k) v flat covers)

  -- which replaces what is stored
  stored : (k v w alpha e old new : ℕ) → v ≤ 255 → IsFlat (channel u k) v → Covers t.tri.a t.tri.b t.tri.c p → IsInterpolated u p (channel u k) w
      → IsBlended replace Colour (operands_of u.state.merge k w alpha e old) new → new ≡ v
  stored k v w alpha e old new byte flat covers is blended =
      let same = colour k v w flat covers is in
      replaced (operands_of u.state.merge k w alpha e old) new (omega (arith, byte, same)) blended ∙ same

  met_step : (start x old new next : CanvasSample) → x.z ≡ old.z → Meets t count i j s → CanvasDraws t count i j s old new → CanvasDraws u count i j s x next → Step start x old new next
  met_step start x old new next same m d e =
      let f = d.met m in
      let g = e.met (meets_too m) in
      let depths : f.0.z ≡ g.0.z = quotient-unique _ _ f.0.z g.0.z f.1.depth g.1.depth in
      elim (passes t.state.merge.test f.0.z old.z) [
        | inl pass ↦
            let pass' : Passes t.state.merge.test g.0.z x.z = rw (← depths, same) pass in
            let own = f.2.passed pass in
            let other = g.2.passed pass' in
            record {
              depth = same_depth t.state.merge.depth_write g.0.z f.0.z x.z old.z next.z new.z (sym depths) same other.depth own.depth;
              case = inl (
                record { meets = m; z = f.0.z; depth = f.1.depth; passes = pass },
                record {
                  red = stored 0 (n % 256) g.0.r g.0.a (x.alpha) x.r next.r (omega arith) (record { first = refl; second = refl; third = refl }) m.covered g.1.red other.red;
                  green = stored 1 (n / 256 % 256) g.0.g g.0.a (x.alpha) x.g next.g (omega arith) (record { first = refl; second = refl; third = refl }) m.covered g.1.green other.green;
                  blue = stored 2 (n / 65536 % 256) g.0.b g.0.a (x.alpha) x.b next.b (omega arith) (record { first = refl; second = refl; third = refl }) m.covered g.1.blue other.blue;
                },
              );
            }
        | inr fail ↦
            let fail' : ¬ Passes t.state.merge.test g.0.z x.z = λ pass'. fail (rw (depths, ← same) pass') in
            let own : new ≡ old = f.2.failed fail in
            let other : next ≡ x = g.2.failed fail' in
            record {
              depth = ap (λ (y : CanvasSample). y.z) other ∙ same ∙ sym (ap (λ (y : CanvasSample). y.z) own);
              case = inr (
                (λ h.
                    let depth : h.z ≡ f.0.z = quotient-unique _ _ h.z f.0.z h.depth f.1.depth in
                    fail (rw (← depth) h.passes)),
                other,
              );
            }
      ]

  step : (start x old new next : CanvasSample) → x.z ≡ old.z → CanvasDraws t count i j s old new → CanvasDraws u count i j s x next → Step start x old new next
  step start x old new next same d e =
      elim (meets t count i j s) [
        | inl m ↦ met_step start x old new next same m d e
        | inr none ↦ missed_step start x old new next same none d e
      ]

-- ---- one after another
module _ (count : SampleCount) (i j s : ℕ) (start : CanvasSample) where
  pub last_of : (ts : List Placed) (n : ℕ) (x old end : CanvasSample) (before : Option ℕ) → x.z ≡ old.z → HasId start x before → CanvasEnds (with_ids ts n) count i j s x end
      → (last : Option ℕ) × IsLast ts n count i j s old before last × HasId start end last
  last_of [] n x old end before same has e = (before, refl, rw e has)
  last_of (t ∷ ts) n x old end before same has e =
      let new = canvas_draws t count i j s old in
      let one = step t n count i j s start x old new.0 e.0 same new.1 e.1 in
      elim one.case [
        | inl passed ↦
            let rest = last_of ts (n + 1) e.0 new.0 end (Some n) one.depth passed.1 e.2 in
            (rest.0, (new.0, new.1, inl (passed.0, rest.1)), rest.2)
        | inr failed ↦
            let rest = last_of ts (n + 1) e.0 new.0 end before one.depth (rw failed.1 has) e.2 in
            (rest.0, (new.0, new.1, inr (failed.0, rest.1)), rest.2)
      ]

pub tells : (ts : List Placed) (n : ℕ) (count : SampleCount) (i j s : ℕ) (start end : CanvasSample) → CanvasEnds (with_ids ts n) count i j s start end
    → (last : Option ℕ) × IsLast ts n count i j s start None last × HasId start end last
tells ts n count i j s start end e = last_of count i j s start ts n start start end None refl (record { red = refl; green = refl; blue = refl }) e

-- ---- the numbers of batches
pub with_id-append : (ts us : List Placed) (n m : ℕ) → m ≡ n + length ts → with_ids (ts ++ us) n ≡ with_ids ts n ++ with_ids us m
with_id-append [] us n m e = let same : n ≡ m = omega arith in ap (with_ids us) same
with_id-append (t ∷ ts) us n m e = ap (λ xs. with_id t n ∷ xs) (with_id-append ts us (n + 1) m (omega arith))
