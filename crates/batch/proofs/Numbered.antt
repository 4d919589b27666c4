-- Triangles in their colours, or in the colours of their ids.
use Rattle.std.proofs.Common.{◌≡◌, refl, sym, subst, ℕ, ◌+◌, Option, None, Some, List, [], ◌++◌, length, arith}
use Rattle.shade.specs.declared.placed.Placed.{Placed}
use Rattle.lanes.specs.declared.block_samples.BlockSamples.{BlockSamples}
use Rattle.canvas.specs.declared.canvas.Canvas.{Canvas}
use Rattle.canvas.specs.Drawing.{HaveEnds}
use Rattle.canvas.proofs.DrawnIds.{with_id-append}
use Rattle.batch.specs.Ids.{drawn_as, ids_after}

pub drawn-append : (ids : Option ℕ) (ts us : List Placed) (n : ℕ) → length ts ≡ n → drawn_as ids (ts ++ us) ≡ drawn_as ids ts ++ drawn_as (ids_after ids n) us
drawn-append None ts us n e = refl
drawn-append (Some id) ts us n e = with_id-append ts us id (id + n) (omega (arith, e))

none_drawn : (ids : Option ℕ) → drawn_as ids [] ≡ []
none_drawn None = refl
none_drawn (Some id) = refl

pub nothing_drawn : (ids : Option ℕ) (c : Canvas) (first end : ℕ) (xs : List BlockSamples) → HaveEnds (drawn_as ids []) c first end xs xs
nothing_drawn ids c first end xs = subst (λ ts. HaveEnds ts c first end xs xs) (sym (none_drawn ids)) (λ i j s h. refl)
