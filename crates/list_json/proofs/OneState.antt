-- A JSON value denotes at most one state of a draw.
use Rattle.std.proofs.Common.{◌≡◌, inl, inr, refl, sym, ap, ◌∙◌, ℕ, ℤ, List, Bool, false, if◌then◌else◌, bytes_eq, codes, get_or, arith}
use Rattle.grid.specs.declared.cull.Cull.{Cull}
use Rattle.grid.specs.declared.cull.Cull.TheVariants as cull
use Rattle.grid.specs.declared.pixels.PixelBox.{PixelBox}
use Rattle.shade.specs.declared.depth.DepthTest.{DepthTest}
use Rattle.shade.specs.declared.depth.DepthTest.TheVariants as test
use Rattle.shade.specs.declared.blend.Blend.{Blend}
use Rattle.shade.specs.declared.sample.Merge.{Merge}
use Rattle.shade.specs.declared.state.State.{State}
use Rattle.list_json.specs.Json.{whole, text, truth}
use Rattle.list_json.specs.Keys.{cull_word, depth_test_word, NamesBlend}
use Rattle.list_json.specs.Denotes.{IsTruth, IsCull, IsDepthTest, IsBlend, IsWriteMask, IsSampleMaskNumber, IsScissor, IsMerge, IsState}
use Rattle.list_json.proofs.OneValue.{IsUnique, same_some, same_number, default-unique, same_three}

-- ---- the words: each is read back

cull_of : List ℕ → Cull
cull_of word = if bytes_eq word (codes "none") then cull.None else if bytes_eq word (codes "front") then cull.Front else cull.Back

cull_of_word : (mode : Cull) → mode ≡ cull_of (cull_word mode)
unfolding cull_of
cull_of_word cull.None = refl
cull_of_word cull.Front = refl
cull_of_word cull.Back = refl

depth_test_of : List ℕ → DepthTest
depth_test_of word =
    if bytes_eq word (codes "never") then test.Never
    else if bytes_eq word (codes "less") then test.Less
    else if bytes_eq word (codes "equal") then test.Equal
    else if bytes_eq word (codes "less_equal") then test.LessEqual
    else if bytes_eq word (codes "greater") then test.Greater
    else if bytes_eq word (codes "not_equal") then test.NotEqual
    else if bytes_eq word (codes "greater_equal") then test.GreaterEqual
    else test.Always

depth_test_of_word : (t : DepthTest) → t ≡ depth_test_of (depth_test_word t)
unfolding depth_test_of
depth_test_of_word test.Never = refl
depth_test_of_word test.Less = refl
depth_test_of_word test.Equal = refl
depth_test_of_word test.LessEqual = refl
depth_test_of_word test.Greater = refl
depth_test_of_word test.NotEqual = refl
depth_test_of_word test.GreaterEqual = refl
depth_test_of_word test.Always = refl

two_words : codes "none" ≡ codes "over" → ⊥
two_words e = let first : get_or (codes "none") 0 0 ≡ get_or (codes "over") 0 0 = ap (λ (w : List ℕ). get_or w 0 0) e in omega (arith, first)

-- no word names two blendings
blend-named : (word : List ℕ) (x y : Blend) → NamesBlend word x → NamesBlend word y → x ≡ y
blend-named word x y (inl h) (inl k) = h.1 ∙ sym k.1
blend-named word x y (inl h) (inr k) = absurd (two_words (sym h.0 ∙ k.0))
blend-named word x y (inr h) (inl k) = absurd (two_words (sym k.0 ∙ h.0))
blend-named word x y (inr h) (inr k) = h.1 ∙ sym k.1

cull-unique : IsUnique IsCull
cull-unique value x y h k = cull_of_word x ∙ ap cull_of (same_some (text value) _ _ h k) ∙ sym (cull_of_word y)

depth_test-unique : IsUnique IsDepthTest
depth_test-unique value x y h k = depth_test_of_word x ∙ ap depth_test_of (same_some (text value) _ _ h k) ∙ sym (depth_test_of_word y)

blend-unique : IsUnique IsBlend
blend-unique value x y h k = blend-named h.0 x y h.2 (rw (same_some (text value) _ _ k.1 h.1) at k.2)

-- ---- the state

truth-unique : IsUnique IsTruth
truth-unique value x y h k = same_some (truth value) x y h k

write_mask-unique : IsUnique IsWriteMask
write_mask-unique value x y h k =
    same_three x y false h.channels k.channels (same_some _ _ _ h.red k.red) (same_some _ _ _ h.green k.green) (same_some _ _ _ h.blue k.blue)

sample_mask-unique : IsUnique IsSampleMaskNumber
sample_mask-unique value x y h k = same_number (whole value) x y h.0 k.0

box : ℤ → ℤ → ℤ → ℤ → PixelBox
box x0 y0 x1 y1 = record { x0 = x0; y0 = y0; x1 = x1; y1 = y1 }

made_same_box : (a b c d a' b' c' d' : ℤ) → a ≡ a' → b ≡ b' → c ≡ c' → d ≡ d' → box a b c d ≡ box a' b' c' d'
made_same_box a b c d a' b' c' d' e f g h = cc

same_box : (x y : PixelBox) → x.x0 ≡ y.x0 → x.y0 ≡ y.y0 → x.x1 ≡ y.x1 → x.y1 ≡ y.y1 → x ≡ y
unfolding box
same_box x y e f g h = made_same_box x.x0 x.y0 x.x1 x.y1 y.x0 y.y0 y.x1 y.y1 e f g h

scissor-unique : IsUnique IsScissor
scissor-unique value x y h k =
    same_box x y (same_some _ _ _ h.left.0 k.left.0) (same_some _ _ _ h.top.0 k.top.0) (same_some _ _ _ h.right.0 k.right.0) (same_some _ _ _ h.bottom.0 k.bottom.0)

merge : DepthTest → Bool → List Bool → Blend → Merge
merge test depth_write write blend = record { test = test; depth_write = depth_write; write = write; blend = blend }

made_same_merge : (t t' : DepthTest) (d d' : Bool) (w w' : List Bool) (b b' : Blend) → t ≡ t' → d ≡ d' → w ≡ w' → b ≡ b' → merge t d w b ≡ merge t' d' w' b'
made_same_merge t t' d d' w w' b b' e f g h = cc

same_merge : (x y : Merge) → x.test ≡ y.test → x.depth_write ≡ y.depth_write → x.write ≡ y.write → x.blend ≡ y.blend → x ≡ y
unfolding merge
same_merge x y e f g h = made_same_merge x.test y.test x.depth_write y.depth_write x.write y.write x.blend y.blend e f g h

merge-unique : IsUnique IsMerge
merge-unique value x y h k =
    same_merge x y (default-unique _ IsDepthTest depth_test-unique _ _ _ h.depth_test k.depth_test) (default-unique _ IsTruth truth-unique _ _ _ h.depth_write k.depth_write)
    (default-unique _ IsWriteMask write_mask-unique _ _ _ h.write k.write) (default-unique _ IsBlend blend-unique _ _ _ h.blend k.blend)

state : Merge → Cull → ℕ → PixelBox → State
state merge cull sample_mask scissor = record { merge = merge; cull = cull; sample_mask = sample_mask; scissor = scissor }

made_same_state : (m m' : Merge) (c c' : Cull) (s s' : ℕ) (b b' : PixelBox) → m ≡ m' → c ≡ c' → s ≡ s' → b ≡ b' → state m c s b ≡ state m' c' s' b'
made_same_state m m' c c' s s' b b' e f g h = cc

same_state : (x y : State) → x.merge ≡ y.merge → x.cull ≡ y.cull → x.sample_mask ≡ y.sample_mask → x.scissor ≡ y.scissor → x ≡ y
unfolding state
same_state x y e f g h = made_same_state x.merge y.merge x.cull y.cull x.sample_mask y.sample_mask x.scissor y.scissor e f g h

pub state-unique : (picture : PixelBox) → IsUnique (IsState picture)
state-unique picture value x y h k =
    same_state x y (merge-unique value _ _ h.merge k.merge) (default-unique _ IsCull cull-unique _ _ _ h.cull k.cull)
    (default-unique _ IsSampleMaskNumber sample_mask-unique _ _ _ h.sample_mask k.sample_mask) (default-unique picture IsScissor scissor-unique _ _ _ h.scissor k.scissor)
