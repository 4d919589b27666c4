use Rattle.std.proofs.Common.{◌/◌, ◌%◌, ◌+◌, [], ◌∷◌, length, decimal, arith, append_assoc, length-append, ap}
use Rattle.std.proofs.lemmas.Fmt.{decimal_step}
use Rattle.picture_file.proofs.header.+push_decimal.Goals as goal

pub push_decimal-requires : goal.push_decimal-requires
push_decimal-requires t c =
    let digits = decimal_step c.args.number (omega arith) (omega arith) in (
      omega arith,
      omega (arith, ap length digits, length-append (decimal (c.args.number / 10)) ((48 + c.args.number % 10) ∷ [])),
    )

pub push-requires-else-number-lt10 : goal.push-requires-else-number-lt10
push-requires-else-number-lt10 t c =
    let digits = decimal_step c.args.number (omega arith) (omega arith) in (
      omega arith,
      omega (arith, c.push_decimal.ensures.len, ap length digits, length-append (decimal (c.args.number / 10)) ((48 + c.args.number % 10) ∷ [])),
    )

pub returns-else-number-lt10 : goal.returns-else-number-lt10
returns-else-number-lt10 t c =
    let digits = decimal_step c.args.number (omega arith) (omega arith) in record {
      items = rw (c.push-else-number-lt10.ensures.items, digits, c.push_decimal.ensures.items) (simp append_assoc);
      len = omega (arith, c.push-else-number-lt10.ensures.len, c.push_decimal.ensures.len, ap length digits, length-append (decimal (c.args.number / 10)) ((48 + c.args.number % 10) ∷ []));
    }
