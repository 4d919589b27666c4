use Rattle.std.proofs.Common.{◌≡◌, ◌∙◌, sym, ap, ◌<◌, ◌≤◌, ℕ, ◌++◌, length, take, drop, slice_set, arith}
use Rattle.std.proofs.lemmas.List.{get_or-take, get_or-set_same, length-take, length-set, take-append-le}
use Rattle.std.proofs.Math.Seq.{take-length}
use Rattle.readout.specs.Tiles.{tile_entries, said_of}
use Rattle.readout.proofs.TileEntries.{one_says, each_says, many_entries}
use Rattle.readout.proofs.tile_ids.ids_of_tile.Goals as goal

pub returns-in-Some-clause-ids : goal.returns-in-Some-clause-ids
returns-in-Some-clause-ids c i j s h =
    let ids = c.args.ids.now in
    let some : 0 < length ids = (let many = many_entries c.args.count in omega (arith, many, c.requires.ids)) in
    let long : length (take 1 (slice_set ids 0 c.in-Some.id)) ≡ 1 = omega (arith, length-take 1 (slice_set ids 0 c.in-Some.id), length-set ids 0 c.in-Some.id, some) in
    one_says c.args.count (take 1 (slice_set ids 0 c.in-Some.id)) i j s long
    ∙ get_or-take 1 (slice_set ids 0 c.in-Some.id) 0 0 (omega arith)
    ∙ get_or-set_same ids 0 c.in-Some.id 0 some
    ∙ sym (c.in-Some.ensures.id i j s h)

pub returns-in-None-clause-ids : goal.returns-in-None-clause-ids
returns-in-None-clause-ids c i j s h =
    let count = c.args.count in
    let n : ℕ = c.tile_entries-entries.result in
    let part = c.write_ids.new.ids in
    let rest = drop n c.args.ids.now in
    let is : n ≡ tile_entries count = c.tile_entries-entries.ensures.value in
    let many = many_entries count in
    let long : length part ≡ n = omega (arith, c.write_ids.auto.ids, c.requires.ids, is, length-take n c.args.ids.now) in
    let within : n ≤ length part = omega (arith, long) in
    let whole : take n (part ++ rest) ≡ part = take-append-le n part rest within ∙ ap (λ m. take m part) (sym long) ∙ take-length part in
    ap (λ xs. said_of count xs i j s) whole
    ∙ each_says count part i j s (λ e. omega (arith, e, long, is, many))
    ∙ c.write_ids.ensures i j s h
