use Rattle.std.proofs.Common.{◌≡◌, ap, ◌∙◌, ℕ, max, List, length, get_or, bit_or}
use Rattle.std.specs.Int.{bit_at}
use Rattle.std.specs.Simd.Lanes.{zip2}
use Rattle.std.proofs.lemmas.Nat.Bits.{bit_at-lt, bit_at_or}
use Rattle.polygons.proofs.MaskLanes.{AreLanes, itself, zipped}
use Rattle.polygons.proofs.BitPlanes.{any_set}
use Rattle.polygons.proofs.bit_planes.nonzero.Goals as goal

module _ (a b c d e : List ℕ) (p : length a ≡ 32) (q : length b ≡ 32) (r : length c ≡ 32) (s : length d ≡ 32) (t : length e ≡ 32) where
  abbrev at : List ℕ → ℕ → ℕ
  at v k = get_or v k 0

  joined : AreLanes 32 (zip2 bit_or (zip2 bit_or (zip2 bit_or (zip2 bit_or a b) c) d) e) (λ k. bit_or (bit_or (bit_or (bit_or (at a k) (at b k)) (at c k)) (at d k)) (at e k))
  joined = zipped 32 bit_or _ e _ _ (zipped 32 bit_or _ d _ _ (zipped 32 bit_or _ c _ _ (zipped 32 bit_or a b _ _ (itself 32 a p) (itself 32 b q)) (itself 32 c r)) (itself 32 d s)) (itself 32 e t)

bits : (a b c d e i : ℕ) → bit_at (bit_or (bit_or (bit_or (bit_or a b) c) d) e) i ≡ max (max (max (max (bit_at a i) (bit_at b i)) (bit_at c i)) (bit_at d i)) (bit_at e i)
bits a b c d e i =
    bit_at_or (bit_or (bit_or (bit_or a b) c) d) e i ∙ (λ j. max (bit_at_or (bit_or (bit_or a b) c) d i j) (bit_at e i)) ∙ (λ j. max (max (bit_at_or (bit_or a b) c i j) (bit_at d i)) (bit_at e i))
    ∙ (λ j. max (max (max (bit_at_or a b i j) (bit_at c i)) (bit_at d i)) (bit_at e i))

pub returns-clause-whole : goal.returns-clause-whole
returns-clause-whole c =
    let v = c.args.planes in
    let w = c.requires in
    (joined v.ones v.twos v.fours v.eights v.sixteens w.ones w.twos w.fours w.eights w.sixteens).long

pub returns-clause-each : goal.returns-clause-each
returns-clause-each c row i h =
    let v = c.args.planes in
    let w = c.requires in
    ap (λ n. bit_at n i) ((joined v.ones v.twos v.fours v.eights v.sixteens w.ones w.twos w.fours w.eights w.sixteens).each row h) ∙ bits _ _ _ _ _ i
    ∙ any_set _ _ _ _ _ (bit_at-lt (get_or v.ones row 0) i) (bit_at-lt (get_or v.twos row 0) i) (bit_at-lt (get_or v.fours row 0) i) (bit_at-lt (get_or v.eights row 0) i) (bit_at-lt (get_or v.sixteens row 0) i)
