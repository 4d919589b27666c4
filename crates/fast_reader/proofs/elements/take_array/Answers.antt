use Rattle.std.proofs.Common.{◌≡◌, ◌≤◌, ◌++◌, ◌∷◌, [], length, Some, rules, arith}
use Rattle.json.specs.Token.{begin_array}
use Rattle.json.specs.Json.{after_end_array}
use Rattle.fast_reader.specs.Took.{Took}
use Rattle.fast_reader.proofs.Taking.{took_shorter, each_none_yet, each_more, each_array}
use Rattle.fast_reader.proofs.elements.take_array.Goals as goal

pub elements-init : goal.elements-init
elements-init g c =
    let none : c.new-found.result.items ≡ [] = search rules in
    record {
      took = rw none (each_none_yet g.R.ElementReader.levels (g.R.ElementReader.denotes c.args.elements.now) c.take_begin_array.new.reader);
      at_most = search (rules, arith);
    }

pub elements-smaller : goal.elements-smaller
elements-smaller g c =
    let Is = g.R.ElementReader.denotes c.args.elements.now in
    let same : c.take_end_array.new.self ≡ c.elements.reader = grind arith in
    let shorter = took_shorter g.R.ElementReader.levels Is c.take_end_array.new.self c.take.new.reader c.in_ok-element.element c.in_ok-element.ensures in
    rw same at shorter

pub elements-preserved : goal.elements-preserved
elements-preserved g c =
    let Is = g.R.ElementReader.denotes c.args.elements.now in
    let same : c.take_end_array.new.self ≡ c.elements.reader = grind arith in
    let took : Took g.R.ElementReader.levels Is c.elements.reader c.in_ok-element.element c.take.new.reader = rw same at c.in_ok-element.ensures in
    let pushed : c.push.new.self.items ≡ c.elements.found.items ++ c.in_ok-element.element ∷ [] = search rules in
    record {
      took = rw pushed (each_more g.R.ElementReader.levels Is c.take_begin_array.new.reader c.elements.reader c.take.new.reader c.elements.found.items c.in_ok-element.element c.elements.invariant.took took);
      at_most = search (rules, arith);
    }

pub returns : goal.returns
returns g c =
    let Is = g.R.ElementReader.denotes c.args.elements.now in
    let ends : after_end_array c.elements.reader ≡ Some c.take_end_array.new.self = grind arith in
    let few : length c.elements.found.items ≤ c.args.most = omega arith in
    let opened : c.args.reader.now ≡ begin_array ∷ c.take_begin_array.new.reader = search rules in
    rw c.shrink_to_fit.ensures.items (each_array g.R.ElementReader.levels c.args.most Is c.args.reader.now c.take_begin_array.new.reader c.elements.reader c.take_end_array.new.self c.elements.found.items opened c.elements.invariant.took ends few)
