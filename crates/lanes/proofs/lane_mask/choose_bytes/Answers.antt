use Rattle.std.proofs.Common.{◌≡◌, ℕ, ◌/◌, ◌<◌, List, map, leb, cond, length, get_or, replicate, ap, ◌∙◌, arith, w8, w16, Fits}
use Rattle.std.proofs.lemmas.Simd.{tops_compared, Each1-get_or}
use Rattle.std.proofs.lemmas.List.{map-id}
use Rattle.std.specs.Simd.Lanes.{sel_l, zip2, Each1, top}
use Rattle.gradients.specs.Lanes.{HasLanes}
use Rattle.gradients.proofs.Lanes.{itself, zipped, chosen, splat, of_each}
use Rattle.lanes.proofs.Lanes.{high_chosen}
use Rattle.lanes.proofs.Lanewise.{shifted}
use Rattle.lanes.proofs.lane_mask.choose_bytes.Goals as goal

abbrev high : List ℕ → List ℕ
high m = zip2 shifted m (replicate 16 8)

high_is : (m : List ℕ) → length m ≡ 16 → HasLanes (high m) (λ k. get_or m k 0 / 256)
high_is m p = zipped shifted m (replicate 16 8) _ _ (itself m p) (splat 8)

small : (m : List ℕ) → length m ≡ 16 → Each1 (Fits w16) m → (k : ℕ) → k < 16 → get_or (high m) k 0 < 256
small m p fits k l = omega (arith, (high_is m p).each k l, (Each1-get_or (Fits w16) m k 0 (omega arith) fits).fits)

pub overflow_cast-result : goal.overflow_cast-result
overflow_cast-result c = of_each _ (high c.args.m) (high_is c.args.m c.fits-m.0).long (λ k l. record { fits = small c.args.m c.fits-m.0 c.fits-m.1 k l })

pub returns-clause-whole : goal.returns-clause-whole
returns-clause-whole c =
    rw (map-id (high c.args.m), tops_compared w8 leb (replicate 16 128) (high c.args.m)) ((chosen leb (replicate 16 128) (high c.args.m) c.args.yes c.args.no (splat 128).long (high_is c.args.m c.fits-m.0).long c.fits-yes.0 c.fits-no.0).long)

pub returns-clause-set : goal.returns-clause-set
returns-clause-set c i l e =
    ap (λ ms. get_or (sel_l ms c.args.yes c.args.no) i 0) (ap (λ v. map (top 7) (zip2 (λ x y. cond (leb x y) 255 0) (replicate 16 128) v)) (map-id (high c.args.m)) ∙ tops_compared w8 leb (replicate 16 128) (high c.args.m))
    ∙ (high_chosen (high c.args.m) c.args.yes c.args.no _ 128 255 (omega arith) (omega arith) (high_is c.args.m c.fits-m.0) c.fits-yes.0 c.fits-no.0 i l).0 (ap (λ n. n / 256) e)

pub returns-clause-clear : goal.returns-clause-clear
returns-clause-clear c i l e =
    ap (λ ms. get_or (sel_l ms c.args.yes c.args.no) i 0) (ap (λ v. map (top 7) (zip2 (λ x y. cond (leb x y) 255 0) (replicate 16 128) v)) (map-id (high c.args.m)) ∙ tops_compared w8 leb (replicate 16 128) (high c.args.m))
    ∙ (high_chosen (high c.args.m) c.args.yes c.args.no _ 128 255 (omega arith) (omega arith) (high_is c.args.m c.fits-m.0) c.fits-yes.0 c.fits-no.0 i l).1 (ap (λ n. n / 256) e)
