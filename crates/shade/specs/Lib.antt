-- The definitions of this crate, each file behind those that it uses; `python3 -m tools.definitions` writes these lines.
--
-- Quotient.antt
--   IsQuotient: q is the quotient of n by d, rounded down.
--
-- Depth.antt
--   Passes: The new depth passes the test against the stored one (Direct3D 11, depth comparison functions).
--
-- Value.antt
--   weighted_sum: The sum of the values u, v, w at a, b, c, each times the absolute edge function of the opposite edge at p.
--   IsValueAt: The value at a covered point p of an attribute that is u, v, w at the vertices a, b, c.
--
-- Weights.antt
--   TriangleAndPoint: The triangle abc and a point p.
--   AreWeights: The weights of the vertices a, b, c at the covered point p: the absolute edge functions of the opposite edges there.
--
-- Row.antt
--   Attribute: The values u, v, w of an attribute at the vertices a, b, c of a triangle.
--   AttributeAt: The values u, v, w of an attribute at the vertices a, b, c of a triangle, and a point p.
--   IsDivided: n divided by d is q, with the remainder r.
--   IsSplit: The step adds `change`, of either sign, as a quotient by the area and a remainder.
--   IsChange: Between two covered points, the second a pixel to the right of the first, the weighted sum changes by this number.
--   IsStep: The step adds what the weighted sum changes by with a pixel to the right.
--   Are16Bit: The values of an attribute fit 16 bits.
--   IsRowAt: A value at the covered point p, with the remainder of the weighted sum, and the step from there.
--
-- Blend.antt
--   saturated: The saturated source alpha.
--   factor: A blend factor times 255 (Direct3D 11, D3D11_BLEND).
--   IsNearest: n is the number from 0 to 255 that is nearest to x / 255.
--   IsCombined: What an operation makes of s with the factor f and d with the factor g (Direct3D 11, D3D11_BLEND_OP).
--   IsBlended: The channel that a blend equation stores.
--   IsOver: The source over the stored channel by the source's alpha, rounded to nearest.
--   IsOfSourceAlpha: The factor of a colour channel is made from the source's alpha.
--   HasFactors: The operation multiplies its operands by their factors.
--   ReadsSourceAlpha: The equation of the colour channels reads the source's alpha.
--
-- Presets.antt
--   AreBytes: The operands are at most 255.
--   clamped: q, but at least 0 and at most 255.
--   replace: The source replaces the stored channel.
--   keep: The stored channel is left.
--   over: The source over the stored channel (Porter and Duff 1984), for a colour that is not multiplied by its alpha.
--   premultiplied_over: The source over the stored channel, for a colour that is multiplied by its alpha, and for alpha itself.
--   add: The sum.
--   add_by_alpha: The sum, with the source multiplied by its alpha.
--   multiply: The product, the stored channel as the factor of the source.
--   multiply_stored: The product, the source as the factor of the stored channel.
--   none_blend: The blend state in which the new colour replaces the stored one.
--   over_blend: The blend state in which the new colour is laid over the stored one by its alpha.
--   AreAlike: Two equations have the same parts.
--   IsKnown: The equation is the known one.
--
-- Merging.antt
--   Writes: Whether a draw writes red, green or blue, which are the channels 0 to 2 (Direct3D 11, write mask).
--   ReadsAlpha: Whether a draw reads the alpha of its fragments.
--   operands_of: What the blend equation of channel k reads of a fragment's channel and alpha, and of the stored alpha and channel.
--   IsWritten: A channel of the write mask takes a value with P, and another is unchanged.
--   IsChannelMerged: What a channel of a sample becomes, by its index in the write mask: red is 0, green is 1, blue is 2.
--   IsMerged: The sample after a fragment that passed the depth test (Direct3D 11, output merger).
--   IsApplied: The sample after a fragment: if the depth test fails, nothing changes (Direct3D 11, output merger).
--
-- Resolve.antt
--   total: The sum of what f is from 0 to before n.
--   IsResolved: A channel of a pixel, resolved from that channel of its samples: the one sample's, or the mean of several.
--
-- Mean.antt
--   mean_of: The mean of what f is from 0 to before n, rounded to nearest with halves up.
--   sample_of: Sample s of a pixel's samples.
--
-- Placed.antt
--   rgba_of: Red, green, blue and alpha of a vertex.
--   channel: What the three vertices have as red, green, blue or alpha, which are the channels 0 to 3.
--   IsInterpolated: The value at p of an attribute that has these values at the three vertices.
--   IsFragmentAt: The fragment of a triangle at p: depth, colour and alpha, each the value at p of what the vertices have.
--   IsNeededAt: What a draw reads of a fragment at p: the depth, each channel that is written, and alpha if the draw reads it.
--   AreWeightsOf: The weights are those of this triangle, at their point.
--   IsDrawnAt: What the triangle makes of a sample at a point p that it covers.
--   Meets: The triangle meets sample s of pixel (i, j), whatever depth is stored there.
--   Draws: What the triangle makes of sample s of pixel (i, j).
--
-- Ending.antt
--   Ends: What the triangles make of sample s of pixel (i, j), one after another in draw order.
--
-- Canvas.antt
--   with_alpha: The sample with this alpha.
--   colour_and_depth: The colour and the depth of a sample.
--   keeping_alpha: The triangle, drawn without writing alpha.
--   alpha_operands: What the blend equation of alpha reads of a fragment's alpha and of the stored alpha.
--   IsAlphaMerged: What stored alpha becomes.
--   IsCanvasMerged: The sample of a canvas after a fragment that passed the depth test (Direct3D 11, output merger).
--   IsCanvasApplied: The sample of a canvas after a fragment.
--   IsCanvasDrawnAt: What the triangle makes of a sample of a canvas at a point p that it covers.
--   CanvasDraws: What the triangle makes of sample s of pixel (i, j) of a canvas.
--   CanvasEnds: What the triangles make of sample s of pixel (i, j) of a canvas, one after another in draw order.

pub mod Quotient
pub mod Depth
pub mod Value
pub mod Weights
pub mod Row
pub mod Blend
pub mod Presets
pub mod Merging
pub mod Resolve
pub mod Mean
pub mod Placed
pub mod Ending
pub mod Canvas
