-- The definitions of this crate, each file behind those that it uses; `python3 -m tools.definitions` writes these lines.
--
-- Fragment.antt
--   FlatFragment: One colour and one depth for all samples, and the state in which they are drawn.
--   Takes: What a sample becomes that takes the fragment, by the depth test, the write mask and the blending of its state.
--
-- Block.antt
--   stored_at: The stored sample of pixel k, counted row by row.
--   IsOnScreen: A block whose first sample is at p lies on the screen, which is 4096 by 4096 pixels.
--   CoversMask: The triangle covers the samples in the mask, of a block whose first sample is at p.
--   AreDrawn: Of the n samples from k on those in the mask become what D says of their points, and all other samples are unchanged.
--
-- BlockMask.antt
--   first_of: Where sample s of the part, of the first pixel of the block, lies.
--   plane_of: The samples s of a part of a block, as they are stored.
--   CoversBlock: The triangle covers the samples in the masks of a block.
--   IsBlockDrawnBy: The samples in the masks of a block become what D says of their points, and the others are unchanged.
--   IsBlockDrawn: The triangle is drawn at the samples in the masks of a block, and the others are unchanged.
--   IsBlockMerged: The samples in the masks of a block take the fragment, and the others are unchanged.
--
-- Lanes.antt
--   IsMaskLane: A lane of a mask says whether P holds: all its bits are set if it does, and none if it does not.
--   IsMask: m has sixteen lanes, and lane k says whether P k holds.
--
-- Operands.antt
--   AreByteLanes: v has sixteen lanes of at most 255.
--   AreTerms: v has sixteen lanes, each at most the product of two bytes.
--   AreAlphaBytes: The operands of alpha are bytes.
--   alpha_of: The operands of alpha in lane i.
--   AreNearest: v has sixteen lanes, and lane i is the byte nearest to x i / 255.
--   AreBlended: v has sixteen lanes, and each is the blended channel of its operands, a byte.
--   red_of: The operands of red in lane i.
--   green_of: The operands of green in lane i.
--   blue_of: The operands of blue in lane i.
--   AreByteColours: The three channels have sixteen lanes of at most 255.
--   AreColourBytes: The operands of colours are bytes.
--   InEach: P holds for the lanes of each colour and its operands.
--   HasSmallSum: Two terms of at most 255 * 255 each, of bytes with these factors, add up to at most 255 * 255.
--
-- Sources.antt
--   NeedsNoDepth: The depth has no part in a merge: each depth passes, and none is stored.
--   HasDepthAt: The plane has the triangle's depth z at a point that the triangle covers.
--   GivesDepth: The source gives this depth at a point, if it has a part in the merge.
--   HasColour: The fragment has this red, green and blue if they are written, and this alpha if the merge reads it.
--   HasColourAt: The planes have the colour of the triangle's fragment at a point that the triangle covers.
--   GivesColour: The source gives the fragment's colour at a point in the channels that are written, and its alpha if the merge reads it.
--   TakesGiven: The sample at a point takes each fragment that the sources give there.
--   IsFlat: The three vertices have the same value v.
--   IsDepthOf: The source gives the triangle's depth.
--   IsFlatColour: The vertices have the same red, green and blue if they are written, and the same alpha if the draw reads it.
--   IsColourOf: The source gives the triangle's colour in the channels that are written, and its alpha if the draw reads it.
--
-- Mode.antt
--   IsDepthMode: What has to hold so that a triangle's depth can be computed in this mode.
--   IsByPlane: The mode takes the depth from a plane.
--   IsDepthBy: The triangle's depth can be computed in this mode, by this plane if the mode needs one.
--   IsColourMode: What has to hold so that a triangle's colour can be computed in this mode, in the channels that the draw reads.
--   IsByPlanes: The mode takes the colour from planes.
--   IsColourBy: The triangle's colour can be computed in this mode, by these planes if the mode needs them.
--   IsAlphaKnown: Where alpha is written, the equation of alpha is that of the blend state `over`, or of `none`.
--   WritesEachColour: The merge writes red, green and blue.
--   WritesColours: The merge writes red, green and blue, and alpha or not.
--   WritesNoColour: The merge writes neither red, green and blue nor alpha.
--   IsMergeMode: Samples can be merged sixteen at once in this mode, by the equation of the merge.
--   IsReady: The triangle can be drawn in this mode by this depth and this colour.
--   known_of: The colour equation of a draw list's `over`, or of its `none`.
--
-- Source.antt
--   IsOfTriangle: The fragment is that of a triangle of this merge at a point that the triangle covers.
--   GivesFragment: The source gives this fragment at a point.
--   IsReadySource: A triangle's depth and colour can be computed in their modes.
--   TakesFrom: The sample at a point takes each fragment that the source gives there.
--
-- Merging.antt
--   IsTested: What the depth test makes of a stored depth, and the lane of its result: all ones if it passed, else 0.
--   AreByteFragments: The fragments have sixteen lanes of at most 255 in each channel.
--   ReadsColours: Lane i of the operands is what is read of fragment i and of stored sample k.
--   AreMerged: The colours are those of fragments blended with the sixteen samples from k on.
--   IsStored: The colour of a sample takes a value with each of these in the channels of the write mask.
--   IsColoured: The colour of a sample is merged with a fragment's.
--   AreMasked: Of the sixteen samples from k on P holds where the mask is set, and no other changes, nor any alpha or depth.
--   TakeColours: Sixteen samples take these colours where the mask is set.
--   AreColoured: The colours of sixteen samples are merged with those of fragments where the mask is set.
--
-- Sums.antt
--   AreSums: Lane i is the sum of what f is of n samples at pixel i.

pub mod Fragment
pub mod Block
pub mod BlockMask
pub mod Lanes
pub mod Operands
pub mod Sources
pub mod Mode
pub mod Source
pub mod Merging
pub mod Sums
