use Rattle.std.proofs.Common.{[], ◌∷◌, refl}
use Rattle.json_tokens.proofs.Lexing.{word_split}
use Rattle.json_tokens.proofs.plain.word_at.Goals as goal

pub returns-then-has_word-2 : goal.returns-then-has_word-2
returns-then-has_word-2 c = (word_split c.args.bytes.now (102 ∷ 97 ∷ 108 ∷ 115 ∷ 101 ∷ []) c.args.from 5 (c.if-has_word-2.ensures refl).1, (c.if-has_word-2.ensures refl).0)
