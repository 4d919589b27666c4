use Rattle.std.proofs.Common.{◌≡◌, sym, ap, ◌∙◌, arith, inl, inr, ℕ, ◌+◌, ◌-◌, ◌*◌, ◌<◌, ◌≤◌, [], List, length, drop, slice_index}
use Rattle.std.proofs.lemmas.Bool.{cases_eq, cases_lt}
use Rattle.std.proofs.lemmas.List.{length-take, length-drop}
use Rattle.polygons.specs.ManyRows.{row_of}
use Rattle.blocks.proofs.Cut.{put, put_here, put_elsewhere}
use Rattle.blocks.proofs.Places.{part_within}
use Rattle.fills.proofs.Zeros.{all, apart_part, next_part}
use Rattle.fills.proofs.scratch.clear_masks.Goals as goal

pub loop-part-preserved : goal.loop-part-preserved
loop-part-preserved c =
    let v = c.loop-part.invariant in
    let part = c.loop-part.part in
    let many = c.args.many in
    let each = c.args.each in
    let mid = c.loop-part.flags in
    let new = c.clear.new.flags in
    let from : ℕ = part * each in
    let n : ℕ = from + many - from in
    let is_many : n ≡ many = omega arith in
    let room = part_within part c.args.parts each c.loop-part-test.true in
    let fits : from + n ≤ length mid = omega (arith, room, is_many, c.requires.wide, c.requires.columns, c.loop-part.auto.flags) in
    let taken = length-take n (drop from mid) in
    let dropped = length-drop from mid in
    let long : length new ≡ n = omega (arith, c.clear.ensures.len, taken, dropped, fits) in
    record {
      zeros = λ column i h. elim (cases_lt column (from + n)) [
        | inr past ↦
            let behind : many ≤ column - from = omega (arith, past, is_many) in
            let inside : column - from < each = omega (arith, h, past, next_part part each) in
            let place : from + (column - from) ≡ column = omega (arith, past) in
            ap (λ (row : List ℕ). slice_index row i) (put_elsewhere mid new from n [] fits long column (λ k l e. omega (arith, past, l, e))) ∙ ap (λ k. slice_index (row_of mid k) i) (sym place) ∙ v.others part (column - from) i behind inside
        | inl less ↦ elim (cases_lt column from) [
          | inl left ↦ ap (λ (row : List ℕ). slice_index row i) (put_elsewhere mid new from n [] fits long column (λ k l e. omega (arith, left, e))) ∙ v.zeros column i left
          | inr right ↦
              let place : from + (column - from) ≡ column = omega (arith, right) in
              ap (λ k. slice_index (row_of (put mid new from n) k) i) (sym place) ∙ ap (λ (row : List ℕ). slice_index row i) (put_here mid new from n [] fits long (column - from) (omega (arith, less, right))) ∙ c.clear.ensures.zeros (column - from) i
        ]
      ];
      others = λ p column i h l. elim (cases_eq p part) [
        | inl e ↦
            ap (λ q. slice_index (row_of (put mid new from n) (q * each + column)) i) e
            ∙ ap (λ (row : List ℕ). slice_index row i) (put_elsewhere mid new from n [] fits long (from + column) (λ k m f. omega (arith, m, f, h, is_many))) ∙ v.others part column i h l
        | inr e ↦
            ap (λ (row : List ℕ). slice_index row i) (put_elsewhere mid new from n [] fits long (p * each + column) (λ k m f. apart_part p part column k each e l (omega (arith, m, is_many, c.requires.wide)) f)) ∙ v.others p column i h l
      ];
    }

no_parts : (parts part each n : ℕ) → parts ≤ part → part ≤ parts → n ≡ parts * each → n ≤ part * each
no_parts parts part each n h l e = let same : part ≡ parts = omega arith in rw same (omega arith)

pub returns : goal.returns
returns c = all c.loop-part.flags (c.loop-part.part * c.args.each) (no_parts c.args.parts c.loop-part.part c.args.each _ c.loop-part-test.false c.loop-part.auto.part-end (c.loop-part.auto.flags ∙ c.requires.columns)) c.loop-part.invariant.zeros
