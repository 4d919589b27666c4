use Rattle.list_json.specs.Keys.{depth_test_words}
use Rattle.list_json.proofs.UnknownWord.{is_among-none}
use Rattle.list_json.proofs.words.depth_test_named.Goals as goal

pub returns-in_default : goal.returns-in_default
returns-in_default c =
    let not = c.in_default in
    is_among-none depth_test_words c.args.word.now (
      not.not-never,
      (not.not-less, (not.not-equal, (not.not-less_equal, (not.not-greater, (not.not-not_equal, (not.not-greater_equal, (not.not-always, tt))))))),
    )
