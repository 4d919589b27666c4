use Rattle.std.proofs.Common.{◌≡◌, ◌∷◌, [], Some, length, rules, arith}
use Rattle.json.specs.Token.{Token}
use Rattle.json.specs.Json.{after_end_array}
use Rattle.draw_list.specs.Primitives.{IsConvexOver}
use Rattle.fast_reader.specs.Took.{Took}
use Rattle.fast_reader.proofs.TakenArrays.{Index, four_within, took_quad}
use Rattle.fast_reader.proofs.index_lists.QuadReaderElementReader.take.Goals as goal

pub is_convex-requires : goal.is_convex-requires
is_convex-requires c =
    let vs = c.args.self.now.vertices.now in
    let t0 : Took 0 (Index (length vs)) c.take_begin_array.new.reader c.in_ok-first.first c.take_index.new.reader = c.in_ok-first.ensures in
    let t1 : Took 0 (Index (length vs)) c.take_index.new.reader c.in_ok-second.second c.take_index-2.new.reader = c.in_ok-second.ensures in
    let t2 : Took 0 (Index (length vs)) c.take_index-2.new.reader c.in_ok-third.third c.take_index-3.new.reader = c.in_ok-third.ensures in
    let t3 : Took 0 (Index (length vs)) c.take_index-3.new.reader c.in_ok-fourth.fourth c.take_index-4.new.reader = c.in_ok-fourth.ensures in
    four_within (length vs) c.in_ok-first.first c.in_ok-second.second c.in_ok-third.third c.in_ok-fourth.fourth t0.is.1 t1.is.1 t2.is.1 t3.is.1

pub returns : goal.returns
returns c =
    let vs = c.args.self.now.vertices.now in
    let t0 : Took 0 (Index (length vs)) c.take_begin_array.new.reader c.in_ok-first.first c.take_index.new.reader = c.in_ok-first.ensures in
    let t1 : Took 0 (Index (length vs)) c.take_index.new.reader c.in_ok-second.second c.take_index-2.new.reader = c.in_ok-second.ensures in
    let t2 : Took 0 (Index (length vs)) c.take_index-2.new.reader c.in_ok-third.third c.take_index-3.new.reader = c.in_ok-third.ensures in
    let t3 : Took 0 (Index (length vs)) c.take_index-3.new.reader c.in_ok-fourth.fourth c.take_index-4.new.reader = c.in_ok-fourth.ensures in
    let first : c.args.reader.now ≡ Token.begin_array ∷ c.take_begin_array.new.reader = search rules in
    let ends : after_end_array c.take_index-4.new.reader ≡ Some c.take_end_array.new.self = grind arith in
    let convex : IsConvexOver vs (c.in_ok-first.first ∷ c.in_ok-second.second ∷ c.in_ok-third.third ∷ c.in_ok-fourth.fourth ∷ []) = search rules in
    took_quad vs c.args.reader.now c.take_begin_array.new.reader c.take_index.new.reader c.take_index-2.new.reader c.take_index-3.new.reader c.take_index-4.new.reader c.take_end_array.new.self
    c.in_ok-first.first c.in_ok-second.second c.in_ok-third.third c.in_ok-fourth.fourth first t0 t1 t2 t3 ends convex
