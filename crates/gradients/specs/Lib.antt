-- The definitions of this crate, each file behind those that it uses; `python3 -m tools.definitions` writes these lines.
--
-- Lanes.antt
--   HasLanes: v has sixteen lanes, and lane k holds f k.
--
-- Modulo.antt
--   IsModulo: n is z modulo 2^64.
--
-- Reciprocal.antt
--   IsReciprocal: value is (2^127 - 1) / (area * 2^shift) rounded down; the shift gives the divisor exactly 64 bits.
--   IsQuotientBelow: quotient is number / area with `bits` fractional bits, less than two units of the last one below it.
--   IsGradient: gradient is number / area with `bits` fractional bits, off by less than two units of the last one.
--   IsExactGradient: gradient is exactly number / area with `bits` fractional bits.
--
-- Slope.antt
--   numerator: The numerator of a slope at a point (x, y) in 1/256 pixel; the attribute there is the numerator by the area.
--   AreGrowths: How much the signed weighted sum of u, v, w grows with x, and with y, in 1/256 pixel.
--   IsSlope: The slope's numerator is the weighted sum of u, v, w at each point that the triangle abc covers.
--   IsBounded: The growths fit 41 bits and a sign.
--
-- Multiple.antt
--   IsMultiple: z is a multiple of n.
--   IsSixteenth: A coordinate that a sample may have: the samples of a pixel lie at multiples of a sixteenth of it.
--
-- Group.antt
--   position_in: The sample of pixel k of a block whose first pixel has its sample at p: pixel k stands in row k / 8 and column k % 8.
--   IsGroupOnScreen: The group whose first sample is at p lies on the screen, which is 4096 by 4096 pixels.
--
-- Whole.antt
--   IsCommonDivisor: g divides the four numbers, and is over 0.
--   IsPast: n is a growth times the distance of z from some multiple of a sixteenth of a pixel.
--   IsWholeSlope: The area, and the numerator wherever a sample may lie, are multiples of a unit.
--
-- Plane.antt
--   IsMargin: How far a plane lies above its slope, so that no error takes it under the slope.
--   IsLevel: The slope is not steep: by the area it grows by less than 2^(63 - bits) with 1/256 pixel, so that it has gradients.
--   IsPlane: The plane of a slope with `bits` fractional bits.
--   IsHigher: q is p, three units of 2^32 higher.
--   IsRaisedPlane: A plane of a slope of whole values, three units higher.
--   IsCandidatePlane: The plane that candidates with k fractional bits are made of.
--   IsNumeratorPlane: The numerator of a slope itself as a plane, with no fractional bits.
--   IsIncrement: n is the plane's growth over a distance (x, y) in 1/256 pixel, modulo 2^64.
--   IsHeight: n is the plane's height at the point (x, y) in 1/256 pixel, modulo 2^64.
--   IsReached: A point, where samples may lie, near the slope's vertex where the numerator is n, of an attribute of at most 32 - k bits.
--   IsHighPart: h is the high half of the plane's growth over a distance.
--
-- Candidate.antt
--   IsClose: f is at least n / s with k fractional bits, and exceeds it by at most three units of the last one.
--   IsSure: The integer part of f is n / s rounded down, and its fraction is at least three units of the last bit, so that this is seen.
--   IsCandidate: f, with k fractional bits, is close to n / s, or surely has n / s rounded down as its integer part.
--   IsNear: m is n / s rounded down, or the number after that.
--
-- AttributePlane.antt
--   sum_at: The weighted sum at p of three values at the vertices a, b, c.
--   AreLaneCandidates: The lanes are candidates, of k fractional bits, of the value at each sample of a group that the triangle covers.
--   AreNear: The lanes are the value, or the number after it, at each sample of the group at p that the triangle abc covers.
--   AreValues: The lanes are the value at each sample of the group at p that the triangle abc covers.
--   AreHighParts: The lanes are the high halves of a plane's growth to sixteen pixels, eight columns by two rows.
--   AreByteValues: The values fit 8 bits.
--   IsNarrow: The values of depth leave 16 fractional bits of 32, and those of a channel 24.
--   IsAttributePlane: The plane of the values at the vertices a, b, c, for candidates of k fractional bits.
--   IsSlopeOf: How one attribute of a triangle grows with x and y.
--   IsChannelSlope: How channel k of a triangle grows with x and y, which is red, green, blue or alpha.
--   IsDepthPlane: The plane of the depth of a triangle, for candidates of 16 fractional bits.
--   AreColourPlanes: A channel has a plane if the draw reads it: red, green and blue if they are written, and alpha if it reads it.
--   AreColourSlopes: The slopes of a triangle's channels that the draw reads.
--   AreBounded: The growths of all four channels fit 41 bits and a sign.
--   AreLevel: The slopes of all four channels are not steep, so that they have gradients of 56 fractional bits.

pub mod Lanes
pub mod Group
pub mod Modulo
pub mod Reciprocal
pub mod Slope
pub mod Multiple
pub mod Whole
pub mod Plane
pub mod Candidate
pub mod AttributePlane
