-- Spaces among sixteen bytes of a text, and what it lexes to behind them.
use Rattle.std.proofs.Common.{◌≡◌, ℕ, zero, suc, ◌+◌, ◌<◌, ◌≤◌, List, drop, get_or, length, Bool, true, false, not, ◌==◌, refl, ap, ◌∙◌, arith}
use Rattle.std.proofs.lemmas.Bool.{eqb-true, true≢false}
use Rattle.std.proofs.lemmas.Simd.{run_in_chunk_le, run_in_chunk_fails}
use Rattle.std.specs.List.{prefix_len}
use Rattle.std.specs.Simd.Lanes.{chunk}
use Rattle.json.specs.Word.{is_space}
use Rattle.json.specs.Lex.{between, lex}
use Rattle.json_tokens.specs.Blank.{is_no_space}
use Rattle.json_tokens.proofs.Lexing.{blank_passed}

not_false : (b : Bool) → not b ≡ false → b ≡ true
not_false true e = refl
not_false false e = absurd (true≢false e)

space_is_blank : (x : ℕ) → is_no_space x ≡ false → is_space x ≡ true
space_is_blank x e = ap is_space (eqb-true x 32 (not_false (x == 32) e))

-- the n bytes from an index on are spaces
spaces_passed : (text : List ℕ) (from n : ℕ) → from + n ≤ length text → ((k : ℕ) → from ≤ k → k < from + n → is_no_space (get_or text k 0) ≡ false)
    → lex between (drop (from + n) text) ≡ lex between (drop from text)
spaces_passed text from zero within are = let e : from + 0 ≡ from = omega arith in ap (λ j. lex between (drop j text)) e
spaces_passed text from (suc n) within are =
    let inside : from + n < length text = omega (arith, within) in
    let next : from + suc n ≡ from + n + 1 = omega arith in
    let blank = space_is_blank (get_or text (from + n) 0) (are (from + n) (omega arith) (omega arith)) in
    let fewer = spaces_passed text from n (omega (arith, within)) (λ k after before. are k after (omega (arith, before))) in
    ap (λ j. lex between (drop j text)) next ∙ blank_passed text (from + n) inside blank ∙ fewer

-- n spaces come first among the sixteen bytes from an index on
pub counted_passed : (text : List ℕ) (from n : ℕ) → from + 16 ≤ length text → n ≡ prefix_len (λ b. not (is_no_space b)) (chunk from 16 text)
    → (lex between (drop (from + n) text) ≡ lex between (drop from text)) × (from + n ≤ length text)
counted_passed text from n room counted =
    let most = run_in_chunk_le is_no_space text from 16 n 0 room counted in
    let within : from + n ≤ length text = omega (arith, most, room) in
    (spaces_passed text from n within (run_in_chunk_fails is_no_space text from 16 n 0 room counted), within)
