-- Where the indices of triangles stand.
use Rattle.std.specs.Prelude.{ℕ, ◌+◌, ◌-◌, ◌*◌, ◌/◌, ◌%◌, ◌==◌, if◌then◌else◌, List, [], ◌∷◌}

-- The places of the indices of triangle m among those of its draw: of triangles, of a strip, of quads.
abbrev pub places_of : ℕ → ℕ → List ℕ
places_of topology m =
    if topology == 0 then (3 * m) ∷ (3 * m + 1) ∷ (3 * m + 2) ∷ []
    else (if topology == 1 then m ∷ (m + 1 + m % 2) ∷ (m + 2 - m % 2) ∷ []
    else (if m % 2 == 0 then (m / 2 * 4) ∷ (m / 2 * 4 + 1) ∷ (m / 2 * 4 + 2) ∷ []
    else (m / 2 * 4 + 2) ∷ (m / 2 * 4 + 3) ∷ (m / 2 * 4) ∷ []))
