-- The definitions of this crate, each file behind those that it uses; `python3 -m tools.definitions` writes these lines.
--
-- Depth.antt
--   IsDepthAt: The depth that a 24-bit unorm depth buffer keeps at a covered point p of a triangle abc with the vertex depths u, v, w.
--
-- Slope.antt
--   depth_numerator: The numerator of a slope at a point (x, y) in 1/256 pixel; the depth there is the numerator by the area.
--   Are32Bit: The depths of a triangle's vertices fit 32 bits.
--   IsDepthSlope: The slope's numerator is the weighted sum of u, v, w at each point that the triangle abc covers.
--   IsLevelDepth: The slope is not steep: by the area it grows by less than 2^31 with 1/256 pixel.
--
-- Plane.antt
--   IsPlaneOfDepth: The plane of a slope with 32 fractional bits.
--   IsPlaneOfNumerator: The numerator of a slope itself as a plane, with no fractional bits.
--   IsIncrementOf: n is the plane's growth over a distance (x, y) in 1/256 pixel, modulo 2^64.
--   IsHeightOf: n is the plane's height at the point (x, y) in 1/256 pixel, modulo 2^64.
--   AreIncrementsOf: The lanes are the plane's growth to sixteen pixels, eight columns by two rows.
--   IsLanePlane: l is the plane p with its growth to sixteen pixels.
--
-- LanePlane.antt
--   IsPlaneOfTriangle: l is the plane of the depth of the triangle abc, which has the depths z at its vertices.
--   IsMadeOf: The plane of a triangle, if it has one, is that of its depth.
--
-- Group.antt
--   AreDeepDepths: The lanes are the depth at each sample of the group at p that the triangle abc covers.
--   AreNearDepths: The lanes are the depth, or the number after it, at each sample of the group at p that the triangle abc covers.

pub mod Depth
pub mod Slope
pub mod Plane
pub mod LanePlane
pub mod Group
