use Rattle.std.proofs.Common.{◌≡◌, arith, ℕ, ◌<◌, List, length, get_or, replicate, bit_and, bit_or, Fits, w8}
use Rattle.std.specs.Simd.Lanes.{zip2}
use Rattle.std.proofs.lemmas.Simd.{Each1-get_or}
use Rattle.polygons.proofs.MaskLanes.{AreLanes, itself, splat, zipped}
use Rattle.polygons.proofs.ByteSums.{difference8, none_differ}
use Rattle.polygons.proofs.LoneFlags.{further, is_lone, lone_is}
use Rattle.polygons.proofs.lone_flags.are_lone.Goals as goal

module _ (d u : List ℕ) (p : length d ≡ 32) (q : length u ≡ 32) where
  abbrev at : List ℕ → ℕ → ℕ
  at v k = get_or v k 0

  lanes : AreLanes 32 (zip2 bit_or (zip2 bit_and (zip2 bit_or d u) (zip2 difference8 (zip2 bit_or d u) (replicate 32 1))) (zip2 bit_and d u)) (λ k. further (at d k) (at u k))
  lanes =
      let some = zipped 32 bit_or d u _ _ (itself 32 d p) (itself 32 u q) in
      zipped 32 bit_or _ _ _ _ (zipped 32 bit_and _ _ _ _ some (zipped 32 difference8 _ _ _ _ some (splat 32 1))) (zipped 32 bit_and d u _ _ (itself 32 d p) (itself 32 u q))

pub returns : goal.returns
returns c =
    let d = c.args.downs in
    let u = c.args.ups in
    let down = λ (row : ℕ) (l : row < 32). (Each1-get_or (Fits w8) d row 0 (omega (arith, c.requires.downs, l)) c.fits-downs.1).fits in
    let up = λ (row : ℕ) (l : row < 32). (Each1-get_or (Fits w8) u row 0 (omega (arith, c.requires.ups, l)) c.fits-ups.1).fits in
    let none = none_differ w8 32 _ (replicate 32 0) _ _ (omega arith) (lanes d u c.requires.downs c.requires.ups) (splat 32 0) in
    (λ t row l. is_lone _ _ (down row l) (up row l) (none.0 t row l), λ lone. none.1 (λ row l. lone_is _ _ (down row l) (up row l) (lone row l)))
