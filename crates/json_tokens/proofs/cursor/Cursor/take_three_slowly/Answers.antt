use Rattle.std.proofs.Common.{◌≡◌, ◌∷◌, Some, refl, rules, arith}
use Rattle.json.specs.Token.{begin_array}
use Rattle.json.specs.Json.{after_end_array}
use Rattle.json_tokens.proofs.cursor.Cursor.take_three_slowly.Goals as goal

pub returns : goal.returns
returns c =
    let opens : c.args.self.now ≡ begin_array ∷ c.take_begin_array.new.self = search rules in
    let closes : after_end_array c.take_natural-3.new.self ≡ Some c.take_end_array.new.self = grind arith in
    record {
      first = _;
      last = _;
      opens = opens;
      integers = (_, c.in_ok-first.ensures, (_, c.in_ok-second.ensures, (_, c.in_ok-third.ensures, refl)));
      closes = closes;
    }
