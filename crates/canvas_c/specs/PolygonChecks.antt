-- The checks of a call that draws polygons.
use Rattle.std.specs.Prelude.{◌≡◌, ◌⊎◌, ℕ, Bool, ◌≤◌, List, [], map, length, Option, None, Some}
use Rattle.std.specs.List.{range_with_len}
use Rattle.batch.specs.Listed.{state_listed}
use Rattle.batch.specs.Causes.{number_of}
use Rattle.batch.specs.declared.fault.BatchCause.TheVariants as causes
use Rattle.batch.specs.States.{state_checks}
use Rattle.checks.specs.Checking.{Checks, done, check, followed_by, reported_as, Pass, FirstIs}
use Rattle.polygons.specs.Arrays.{ArePolygons, BoxesFit, IsWrong}
use Rattle.polygons.specs.declared.arrays.ArraysError.{ArraysError}
-- generated: names
use Rattle.polygons.specs.declared.arrays.ArraysError.TheVariants.{OutOfBand, CornersLeft, RingsLeft, TooManyCorners, Ring, Polygon, TooFewBoxes}
-- end of names
use Rattle.canvas.specs.declared.window.Origin.{Origin}
use Rattle.fills.specs.Batches.{shape_by, HasColours}
use Rattle.fills.specs.Painting.{Shape, IsOriginInBand}
use Rattle.c_abi.specs.Sizes.{IsOwnSize}
use Rattle.c_abi.specs.declared.fault.Fault.{Fault}
use Rattle.c_abi.specs.declared.status.Status.{Status}
use Rattle.c_abi.specs.declared.status.Status.TheVariants.{BadBatch, BadPosition, BadStructSize, BufferTooSmall}
use Rattle.canvas_c.specs.declared.piece.CanvasHead.{CanvasHead}
use Rattle.canvas_c.specs.declared.polygon_arrays.PolygonArrays.{PolygonArrays}
use Rattle.canvas_c.specs.Pieces.{piece_checks}
use Rattle.canvas_c.specs.Scratch.{rule_of, flag_columns_listed, counter_columns_listed}

-- The origin of the caller's canvas.
abbrev pub origin_of : CanvasHead → Origin
origin_of head = record { x = head.origin_x; y = head.origin_y }

-- The checks of the rule and of the state, each with the number of its cause.
abbrev pub known_checks : PolygonArrays → Checks ℕ
known_checks a = check (a.fill_rule ≤ 1) (number_of causes.BadFillRule) (reported_as number_of (state_checks a.state))

-- The rule and the state are known ones.
abbrev pub HasKnownRuleAndState : PolygonArrays → Type 0
HasKnownRuleAndState a = Pass (known_checks a)

-- There is a depth for each polygon, or none at all.
abbrev pub HasDepths : PolygonArrays → Type 0
HasDepths a = (length a.depths.now ≡ 0) ⊎ (length a.polygon_ends.now ≤ length a.depths.now)

-- The arrays are those of polygons.
abbrev pub HasPolygons : PolygonArrays → Type 0
HasPolygons a = ArePolygons a.corners.now a.ring_ends.now a.polygon_ends.now a.boxes.now

-- If there are boxes, they are those of the polygons.
abbrev pub HasRightBoxes : PolygonArrays → Type 0
HasRightBoxes a = BoxesFit a.boxes.now a.corners.now a.ring_ends.now a.polygon_ends.now

-- The polygons can be drawn, in their colours or by ids.
pub record AreGood (ids : Option ℕ) (a : PolygonArrays) : Type 0 where
  pub known : HasKnownRuleAndState a
  pub arrays : HasPolygons a
  pub colours : HasColours ids a.colours.now (length a.polygon_ends.now)
  pub depths : HasDepths a

-- The scratch memory has as many columns of flags, and by the nonzero rule of counters.
pub record HasScratch (head : CanvasHead) (a : PolygonArrays) (flags counters : ℕ) : Type 0 where
  pub enough_flags : flag_columns_listed head a.fill_rule ≤ flags
  pub enough_counters : (a.fill_rule ≡ 0) ⊎ (counter_columns_listed head ≤ counters)

-- The checks of a call that draws polygons.
abbrev pub polygons_checks : CanvasHead → ℕ → Option ℕ → PolygonArrays → ℕ → ℕ → Checks Status
polygons_checks head planes ids a flags counters =
    followed_by (piece_checks head planes) (
    check (IsOwnSize a.struct_size 160) BadStructSize (
    check (IsOriginInBand (origin_of head)) BadPosition (
    check (HasScratch head a flags counters) BufferTooSmall (
    check (AreGood ids a) BadBatch
    done))))

-- What is wrong with arrays of polygons, by its number and with the index of the ring, the polygon or the corner.
abbrev pub array_fault : ArraysError → Fault
-- generated: arrays
array_fault (OutOfBand k) = record { cause = number_of causes.BadPosition; draw = None; element = Some k; value = None }
array_fault CornersLeft = record { cause = number_of causes.LeftOver; draw = None; element = None; value = None }
array_fault RingsLeft = record { cause = number_of causes.LeftOver; draw = None; element = None; value = None }
array_fault TooManyCorners = record { cause = number_of causes.TooManyCorners; draw = None; element = None; value = None }
array_fault (Ring k) = record { cause = number_of causes.BadRing; draw = None; element = Some k; value = None }
array_fault (Polygon k) = record { cause = number_of causes.BadPolygon; draw = None; element = Some k; value = None }
array_fault TooFewBoxes = record { cause = number_of causes.TooFewBoxes; draw = None; element = None; value = None }

-- end of arrays

-- There are too few colours, or an id would have more than 24 bits.
abbrev pub colours_cause : Option ℕ → ℕ
colours_cause None = number_of causes.TooFewColors
colours_cause (Some first) = number_of causes.TooManyIds

-- An error of all polygons together.
abbrev pub of_all : ℕ → Fault
of_all cause = record { cause = cause; draw = None; element = None; value = None }

-- This is first wrong with the polygons: the rule or the state, then the arrays, the colours or ids, the depths.
abbrev pub IsFirstOfPolygons : Option ℕ → PolygonArrays → Fault → Type 0
IsFirstOfPolygons ids a fault =
    ((cause : ℕ) × FirstIs (known_checks a) cause × (fault ≡ of_all cause))
    ⊎ (HasKnownRuleAndState a × ((e : ArraysError) × IsWrong a.corners.now a.ring_ends.now a.polygon_ends.now a.boxes.now e × (fault ≡ array_fault e)))
    ⊎ (HasKnownRuleAndState a × HasPolygons a × (¬ HasColours ids a.colours.now (length a.polygon_ends.now)) × (fault ≡ of_all (colours_cause ids)))
    ⊎ (HasKnownRuleAndState a × HasPolygons a × HasColours ids a.colours.now (length a.polygon_ends.now) × (¬ HasDepths a) × (fault ≡ of_all (number_of causes.TooFewDepths)))

-- The checks of a call that finds the boxes of polygons, with room for n of them. What is in `boxes` is not looked at.
abbrev pub measure_checks : PolygonArrays → ℕ → Checks Status
measure_checks a n =
    check (IsOwnSize a.struct_size 160) BadStructSize (
    check (length a.polygon_ends.now ≤ n) BufferTooSmall (
    check (ArePolygons a.corners.now a.ring_ends.now a.polygon_ends.now []) BadBatch
    done))

-- This is first wrong with the arrays.
abbrev pub IsFirstOfArrays : PolygonArrays → Fault → Type 0
IsFirstOfArrays a fault = (e : ArraysError) × IsWrong a.corners.now a.ring_ends.now a.polygon_ends.now [] e × (fault ≡ array_fault e)

-- The polygons as they are drawn, in their order, on a canvas that has alpha or not.
abbrev pub shapes_listed : Bool → Option ℕ → PolygonArrays → List Shape
shapes_listed has_alpha ids a =
    map (shape_by a.corners.now a.ring_ends.now a.polygon_ends.now (rule_of a.fill_rule) a.colours.now a.depths.now ids (state_listed has_alpha a.state)) (range_with_len 0 (length a.polygon_ends.now))
