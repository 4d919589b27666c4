-- The bytes of eight pixels, made of their channels.
use Rattle.std.proofs.Common.{◌≡◌, ◌∙◌, ap, sym, zero, suc, refl, ℕ, ◌+◌, ◌*◌, ◌<◌, List, [], ◌∷◌, ◌++◌, length, slice_index, slice_index_or, get_or-append-add, drop, arith}
use Rattle.std.proofs.lemmas.List.{get_or-drop}

first_four : (a b c d : ℕ) (rest : List ℕ) (k : ℕ) → k < 4 → slice_index (a ∷ b ∷ c ∷ d ∷ rest) k ≡ slice_index (a ∷ b ∷ c ∷ d ∷ []) k
first_four a b c d rest zero h = refl
first_four a b c d rest (suc zero) h = refl
first_four a b c d rest (suc (suc zero)) h = refl
first_four a b c d rest (suc (suc (suc zero))) h = refl
first_four a b c d rest (suc (suc (suc (suc k)))) h = absurd (omega arith)

pub same_four : (a b c d a' b' c' d' k : ℕ) → a ≡ a' → b ≡ b' → c ≡ c' → d ≡ d' → slice_index (a ∷ b ∷ c ∷ d ∷ []) k ≡ slice_index (a' ∷ b' ∷ c' ∷ d' ∷ []) k
same_four a b c d a' b' c' d' k e f g h = rw (e, f, g, h) refl

-- the second eight lie behind the first
pub behind_eight : (xs ys : List ℕ) (i : ℕ) → length xs ≡ 8 → slice_index_or (xs ++ ys) (8 + i) 0 ≡ slice_index ys i
behind_eight xs ys i long = ap (λ n. slice_index_or (xs ++ ys) (n + i) 0) (sym long) ∙ get_or-append-add xs ys i 0

module _ (a b c d : ℕ → ℕ) where
  -- four channels of eight pixels, pixel by pixel
  abbrev four : List ℕ
  four = a 0 ∷ b 0 ∷ c 0 ∷ d 0 ∷ a 1 ∷ b 1 ∷ c 1 ∷ d 1 ∷ a 2 ∷ b 2 ∷ c 2 ∷ d 2 ∷ a 3 ∷ b 3 ∷ c 3 ∷ d 3 ∷ a 4 ∷ b 4 ∷ c 4 ∷ d 4 ∷ a 5 ∷ b 5 ∷ c 5 ∷ d 5 ∷ a 6 ∷ b 6 ∷ c 6 ∷ d 6 ∷ a 7 ∷ b 7 ∷ c 7 ∷ d 7 ∷ []

  pub four_is : (i k : ℕ) → i < 8 → k < 4 → slice_index four (i * 4 + k) ≡ slice_index (a i ∷ b i ∷ c i ∷ d i ∷ []) k
  four_is zero k l h = sym (get_or-drop 0 four k 0) ∙ first_four _ _ _ _ (drop 4 four) k h
  four_is (suc zero) k l h = sym (get_or-drop 4 four k 0) ∙ first_four _ _ _ _ (drop 8 four) k h
  four_is (suc (suc zero)) k l h = sym (get_or-drop 8 four k 0) ∙ first_four _ _ _ _ (drop 12 four) k h
  four_is (suc (suc (suc zero))) k l h = sym (get_or-drop 12 four k 0) ∙ first_four _ _ _ _ (drop 16 four) k h
  four_is (suc (suc (suc (suc zero)))) k l h = sym (get_or-drop 16 four k 0) ∙ first_four _ _ _ _ (drop 20 four) k h
  four_is (suc (suc (suc (suc (suc zero))))) k l h = sym (get_or-drop 20 four k 0) ∙ first_four _ _ _ _ (drop 24 four) k h
  four_is (suc (suc (suc (suc (suc (suc zero)))))) k l h = sym (get_or-drop 24 four k 0) ∙ first_four _ _ _ _ (drop 28 four) k h
  four_is (suc (suc (suc (suc (suc (suc (suc zero))))))) k l h = sym (get_or-drop 28 four k 0) ∙ first_four _ _ _ _ (drop 32 four) k h
  four_is (suc (suc (suc (suc (suc (suc (suc (suc i)))))))) k l h = absurd (omega arith)
