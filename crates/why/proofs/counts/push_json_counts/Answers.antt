use Rattle.std.proofs.Common.{◌≡◌, refl, subst, ℕ, List, ◌++◌, string_bytes, codes, OnOk, append_assoc}
use Rattle.std.specs.Prelude.{decimal}
use Rattle.why.proofs.counts.push_json_counts.Goals as goal

flat : (a b c d e f g : List ℕ) → a ++ (b ++ (c ++ (d ++ (e ++ (f ++ g))))) ≡ a ++ b ++ c ++ d ++ e ++ f ++ g
flat a b c d e f g = simp append_assoc refl

pub returns : goal.returns
returns c =
    let counts = c.args.counts.now in
    subst (λ text. OnOk c.write.result (string_bytes c.write.new.self ≡ string_bytes c.args.out.now ++ text))
    (flat (codes ",\"covered\":") (decimal counts.covered) (codes ",\"changed\":") (decimal counts.changed) (codes ",\"shown\":") (decimal counts.shown) (codes "}\n"))
    c.write.ensures.bytes
