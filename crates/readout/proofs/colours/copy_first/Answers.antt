use Rattle.std.proofs.Common.{◌≡◌, ◌∙◌, ap, sym, zero, suc, ℕ, ◌+◌, ◌<◌, ◌≤◌, List, [], ◌∷◌, ◌++◌, length, take, drop, refl, slice_index_or, arith}
use Rattle.std.specs.Simd.Lanes.{put_chunk}
use Rattle.std.proofs.lemmas.List.{get_or_append_left, length-take-le, length-drop}
use Rattle.std.proofs.lemmas.Simd.{put_chunk_whole}
use Rattle.std.proofs.Math.Seq.{take-length}
use Rattle.readout.proofs.colours.copy_first.Goals as goal

-- the first values of f
abbrev firsts : ℕ → (ℕ → ℕ) → List ℕ
firsts zero f = []
firsts (suc n) f = f 0 ∷ firsts n (λ k. f (suc k))

firsts_are : (n : ℕ) (xs : List ℕ) (f : ℕ → ℕ) → n ≤ length xs → ((k : ℕ) → k < n → f k ≡ slice_index_or xs k 0) → firsts n f ≡ take n xs
firsts_are zero xs f long same = refl
firsts_are (suc n) [] f long same = absurd (omega (arith, long))
firsts_are (suc n) (x ∷ xs) f long same =
    ap (λ y. y ∷ firsts n (λ k. f (suc k))) (same 0 (omega arith)) ∙ ap (λ ys. x ∷ ys) (firsts_are n xs (λ k. f (suc k)) (omega (arith, long)) (λ k l. same (suc k) (omega (arith, l))))

pub returns-then-length-eq32 : goal.returns-then-length-eq32
returns-then-length-eq32 c =
    put_chunk_whole c.args.bytes.now c.args.run (c.if-length-eq32.true ∙ sym c.requires.whole)
    ∙ sym (ap (λ n. take n c.args.run) (c.if-length-eq32.true ∙ sym c.requires.whole) ∙ take-length c.args.run)

pub returns-then-length-eq24 : goal.returns-then-length-eq24
returns-then-length-eq24 c =
    let run : List ℕ = c.args.run in
    let bytes : List ℕ = c.args.bytes.now in
    let f : ℕ → ℕ = λ k. slice_index_or (run ++ run) k 0 in
    let low : List ℕ = firsts 16 f in
    let high : List ℕ = firsts 8 (λ k. f (16 + k)) in
    let long : length bytes ≡ 24 = c.if-length-eq24.true in
    ap (λ xs. put_chunk 16 (xs ++ drop 16 bytes) high) (put_chunk_whole (take 16 bytes) low (length-take-le 16 bytes (omega (arith, long))))
    ∙ ap (λ xs. low ++ xs) (put_chunk_whole (drop 16 bytes) high (omega (arith, long, length-drop 16 bytes)))
    ∙ firsts_are 24 run f (omega (arith, c.requires.whole)) (λ k l. get_or_append_left run run 0 k (omega (arith, l, c.requires.whole)))
    ∙ ap (λ n. take n run) (sym long)
