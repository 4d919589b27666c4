-- Why a batch cannot be drawn.
use Rattle.std.specs.Prelude.{ℕ, Some, None}
use Rattle.batch.specs.declared.fault.BatchCause.{BatchCause}
-- generated: names
use Rattle.batch.specs.declared.fault.BatchCause.TheVariants.{TooFewVertices, TooFewIndices, BadState, NotWhole, TooManyIds, BadIndex, BadPosition, NotConvex, LeftOver, TooManyCorners, BadRing, BadPolygon, TooFewColors, TooFewDepths, BadTopology, BadCull, BadDepthTest, BadDepthWrite, BadKeep, BadScissorEnable, BadFactor, BadOperation, BadFillRule, TooFewBoxes}
-- end of names
use Rattle.batch.specs.declared.fault.BatchFault.{BatchFault}
use Rattle.batch.specs.declared.fault.DrawFault.{DrawFault}

-- The number of each cause in C. It never changes its meaning.
abbrev pub number_of : BatchCause → ℕ
-- generated: numbers
number_of TooFewVertices = 1
number_of TooFewIndices = 2
number_of BadState = 3
number_of NotWhole = 4
number_of TooManyIds = 5
number_of BadIndex = 6
number_of BadPosition = 7
number_of NotConvex = 8
number_of LeftOver = 9
number_of TooManyCorners = 10
number_of BadRing = 11
number_of BadPolygon = 12
number_of TooFewColors = 13
number_of TooFewDepths = 14
number_of BadTopology = 15
number_of BadCull = 16
number_of BadDepthTest = 17
number_of BadDepthWrite = 18
number_of BadKeep = 19
number_of BadScissorEnable = 20
number_of BadFactor = 21
number_of BadOperation = 22
number_of BadFillRule = 23
number_of TooFewBoxes = 24

-- end of numbers

-- What is wrong with a draw as a whole.
abbrev pub of_draw : BatchCause → DrawFault
of_draw cause = record { cause = cause; element = None; value = None }

-- What is wrong with one of a draw's indices, vertices or quads, by its index in the draw's own array.
abbrev pub at_element : BatchCause → ℕ → DrawFault
at_element cause element = record { cause = cause; element = Some element; value = None }

-- An index that names no vertex: its index in the draw's own array, and its value.
abbrev pub bad_index : ℕ → ℕ → DrawFault
bad_index place index = record { cause = BadIndex; element = Some place; value = Some index }

-- What is wrong with the draw of this number.
abbrev pub in_draw : ℕ → DrawFault → BatchFault
in_draw number fault = record { cause = fault.cause; draw = Some number; element = fault.element; value = fault.value }

-- A vertex or an index is in no draw.
abbrev pub left_over : BatchFault
left_over = record { cause = LeftOver; draw = None; element = None; value = None }
