use Rattle.std.proofs.Common.{◌≡◌, sym, subst, ◌++◌, string_bytes, OnOk, append_assoc}
use Rattle.why.proofs.counts.push_line.Goals as goal

pub returns : goal.returns
returns c =
    subst (λ text. OnOk c.write.result (string_bytes c.write.new.self ≡ string_bytes c.args.out.now ++ text))
    (rw c.laid_out.ensures (sym (append_assoc c.args.words.now _ c.args.end.now)))
    c.write.ensures.bytes
