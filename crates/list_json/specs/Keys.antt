-- The keys and the words of a draw list in JSON.
use Rattle.std.specs.Prelude.{◌≡◌, ◌⊎◌, ℕ, List, [], ◌∷◌, codes}
use Rattle.grid.specs.declared.cull.Cull.{Cull}
use Rattle.grid.specs.declared.cull.Cull.TheVariants as cull
use Rattle.shade.specs.declared.blend.Blend.{Blend}
use Rattle.shade.specs.Presets.{none_blend, over_blend}
use Rattle.shade.specs.declared.depth.DepthTest.{DepthTest}
use Rattle.shade.specs.declared.depth.DepthTest.TheVariants as test
use Rattle.draw_list.specs.declared.output.Output.{Output}
use Rattle.draw_list.specs.declared.output.Output.TheVariants as output

-- The keys of the top object.
abbrev pub top_keys : List (List ℕ)
top_keys = codes "width" ∷ codes "height" ∷ codes "samples" ∷ codes "clear" ∷ codes "clear_depth" ∷ codes "output" ∷ codes "draws" ∷ []

-- The keys of a draw.
abbrev pub draw_keys : List (List ℕ)
draw_keys =
    codes "cull" ∷ codes "depth_test" ∷ codes "depth_write" ∷ codes "blend" ∷ codes "write" ∷ codes "sample_mask" ∷ codes "scissor"
    ∷ codes "vertices" ∷ codes "triangles" ∷ codes "strip" ∷ codes "quads" ∷ []

-- The word for what a picture shows.
abbrev pub output_word : Output → List ℕ
output_word output.Color = codes "color"
output_word output.Depth = codes "depth"

-- The words for all that a picture can show.
abbrev pub output_words : List (List ℕ)
output_words = output_word output.Color ∷ output_word output.Depth ∷ []

-- The word for each culling.
abbrev pub cull_word : Cull → List ℕ
cull_word cull.None = codes "none"
cull_word cull.Front = codes "front"
cull_word cull.Back = codes "back"

-- The words for all cullings.
abbrev pub cull_words : List (List ℕ)
cull_words = cull_word cull.None ∷ cull_word cull.Front ∷ cull_word cull.Back ∷ []

-- The word for each depth test.
abbrev pub depth_test_word : DepthTest → List ℕ
depth_test_word test.Never = codes "never"
depth_test_word test.Less = codes "less"
depth_test_word test.Equal = codes "equal"
depth_test_word test.LessEqual = codes "less_equal"
depth_test_word test.Greater = codes "greater"
depth_test_word test.NotEqual = codes "not_equal"
depth_test_word test.GreaterEqual = codes "greater_equal"
depth_test_word test.Always = codes "always"

-- The words for all depth tests.
abbrev pub depth_test_words : List (List ℕ)
depth_test_words =
    depth_test_word test.Never ∷ depth_test_word test.Less ∷ depth_test_word test.Equal ∷ depth_test_word test.LessEqual
    ∷ depth_test_word test.Greater ∷ depth_test_word test.NotEqual ∷ depth_test_word test.GreaterEqual ∷ depth_test_word test.Always ∷ []

-- The word names this blending: in place of what is stored, or over it.
abbrev pub NamesBlend : List ℕ → Blend → Type 0
NamesBlend word blend = ((word ≡ codes "none") × (blend ≡ none_blend)) ⊎ ((word ≡ codes "over") × (blend ≡ over_blend))

-- The words for both blendings.
abbrev pub blend_words : List (List ℕ)
blend_words = codes "none" ∷ codes "over" ∷ []
