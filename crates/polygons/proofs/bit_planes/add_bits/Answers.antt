use Rattle.std.proofs.Common.{◌≡◌, ◌∙◌, ℕ, ◌+◌, ◌*◌, ◌<◌, List, length, get_or, bit_and, bit_or}
use Rattle.std.specs.Int.{bit_at}
use Rattle.std.specs.Int.RustNames.{bit_xor}
use Rattle.std.specs.Simd.Lanes.{zip2}
use Rattle.polygons.proofs.MaskLanes.{AreLanes, itself, zipped}
use Rattle.polygons.proofs.BitPlanes.{sum_of_bits}
use Rattle.polygons.proofs.bit_planes.add_bits.Goals as goal

module _ (x y c : List ℕ) (x_long : length x ≡ 32) (y_long : length y ≡ 32) (c_long : length c ≡ 32) where
  abbrev at : List ℕ → ℕ → ℕ
  at v p = get_or v p 0

  half : AreLanes 32 (zip2 bit_xor x y) (λ p. bit_xor (at x p) (at y p))
  half = zipped 32 bit_xor x y _ _ (itself 32 x x_long) (itself 32 y y_long)

  sum : AreLanes 32 (zip2 bit_xor (zip2 bit_xor x y) c) (λ p. bit_xor (bit_xor (at x p) (at y p)) (at c p))
  sum = zipped 32 bit_xor _ c _ _ half (itself 32 c c_long)

  both : AreLanes 32 (zip2 bit_and x y) (λ p. bit_and (at x p) (at y p))
  both = zipped 32 bit_and x y _ _ (itself 32 x x_long) (itself 32 y y_long)

  next : AreLanes 32 (zip2 bit_and (zip2 bit_xor x y) c) (λ p. bit_and (bit_xor (at x p) (at y p)) (at c p))
  next = zipped 32 bit_and _ c _ _ half (itself 32 c c_long)

  carry : AreLanes 32 (zip2 bit_or (zip2 bit_and x y) (zip2 bit_and (zip2 bit_xor x y) c)) (λ p. bit_or (bit_and (at x p) (at y p)) (bit_and (bit_xor (at x p) (at y p)) (at c p)))
  carry = zipped 32 bit_or _ _ _ _ both next

  total : (p i : ℕ) → p < 32 → bit_at (at (zip2 bit_xor (zip2 bit_xor x y) c) p) i + 2 * bit_at (at (zip2 bit_or (zip2 bit_and x y) (zip2 bit_and (zip2 bit_xor x y) c)) p) i ≡ bit_at (at x p) i + bit_at (at y p) i + bit_at (at c p) i
  total p i h = (λ k. bit_at (sum.each p h k) i + 2 * bit_at (carry.each p h k) i) ∙ sum_of_bits (at x p) (at y p) (at c p) i

pub returns-clause-bits : goal.returns-clause-bits
returns-clause-bits c = (sum c.args.x c.args.y c.args.carry c.requires.x c.requires.y c.requires.carry).long

pub returns-clause-carries : goal.returns-clause-carries
returns-clause-carries c = (carry c.args.x c.args.y c.args.carry c.requires.x c.requires.y c.requires.carry).long

pub returns-clause-each : goal.returns-clause-each
returns-clause-each c row i h = total c.args.x c.args.y c.args.carry c.requires.x c.requires.y c.requires.carry row i h
