-- The texts of reports, byte by byte but for the histories of samples.
use Rattle.std.specs.Prelude.{ℕ, ◌-◌, ◌^◌, List, [], ◌++◌, false, codes, decimal, slice_index}
use Rattle.std.specs.Fmt.{padded_integral, format_spec}
use Rattle.draw_list.specs.declared.output.Output.{Output}
use Rattle.draw_list.specs.declared.output.Output.TheVariants.{Color, Depth}
use Rattle.list_history.specs.declared.sample_counts.SampleCounts.{SampleCounts}
use Rattle.why.specs.declared.arguments.Asked.{Asked}
use Rattle.why.specs.declared.arguments.AskedTriangle.{AskedTriangle}
use Rattle.why.specs.declared.arguments.Form.{Form}
use Rattle.why.specs.declared.arguments.Form.TheVariants.{Table, Json}
use Rattle.why.specs.declared.text.Pixel.{Pixel}

-- The place of a triangle, as the first members of a JSON text.
abbrev pub place_json : AskedTriangle → List ℕ
place_json asked = codes "{\"draw\":" ++ decimal asked.place.draw ++ codes ",\"triangle\":" ++ decimal asked.place.triangle

-- The numbers of its samples, as the last members.
abbrev pub numbers_json : SampleCounts → List ℕ
numbers_json counts =
    codes ",\"covered\":" ++ decimal counts.covered ++ codes ",\"changed\":" ++ decimal counts.changed
    ++ codes ",\"shown\":" ++ decimal counts.shown ++ codes "}\n"

-- The numbers of a triangle's samples, as a JSON text.
abbrev pub counts_json : AskedTriangle → SampleCounts → List ℕ
counts_json asked counts = place_json asked ++ numbers_json counts

-- A line of a table: words, a number in decimal digits at the right end of eight characters, and words.
abbrev pub line : List ℕ → ℕ → List ℕ → List ℕ
line words n end = words ++ padded_integral (format_spec 32 3 0 8 (2 ^ 64 - 1)) false [] (decimal n) ++ end

-- The numbers of a triangle's samples, as a table.
abbrev pub counts_table : AskedTriangle → SampleCounts → List ℕ
counts_table asked counts =
    codes "draw " ++ decimal asked.place.draw ++ codes " triangle " ++ decimal asked.place.triangle ++ codes "\n"
    ++ line (codes "  covers    ") counts.covered (codes " samples\n")
    ++ line (codes "  changes   ") counts.changed (codes " samples\n")
    ++ line (codes "  shown by  ") counts.shown (codes " samples in the end\n")

-- The numbers of a triangle's samples, in this form.
abbrev pub counts_in : Form → AskedTriangle → SampleCounts → List ℕ
counts_in Json = counts_json
counts_in Table = counts_table

-- The text of a report of a triangle with these numbers.
abbrev pub counts_text : AskedTriangle → SampleCounts → List ℕ
counts_text asked counts = counts_in asked.form asked counts

-- What the picture shows at a pixel, in a JSON text.
abbrev pub value_json : Output → Pixel → List ℕ
value_json Color pixel =
    codes "\"color\":[" ++ decimal (slice_index pixel.colour 0) ++ codes "," ++ decimal (slice_index pixel.colour 1)
    ++ codes "," ++ decimal (slice_index pixel.colour 2) ++ codes "]"
value_json Depth pixel = codes "\"depth\":" ++ decimal pixel.depth

-- What the picture shows at a pixel, as the last line of a table.
abbrev pub value_table : Output → Pixel → List ℕ
value_table Color pixel =
    codes "colour (" ++ decimal (slice_index pixel.colour 0) ++ codes ", " ++ decimal (slice_index pixel.colour 1)
    ++ codes ", " ++ decimal (slice_index pixel.colour 2) ++ codes ")\n"
value_table Depth pixel = codes "depth " ++ decimal pixel.depth ++ codes "\n"

-- A report of a pixel in this form, with the histories of its samples.
abbrev pub pixel_in : Form → Output → Asked → Pixel → List ℕ → List ℕ
pixel_in Json output asked pixel histories =
    codes "{\"x\":" ++ decimal asked.x ++ codes ",\"y\":" ++ decimal asked.y ++ codes ","
    ++ value_json output pixel ++ codes ",\"samples\":[" ++ histories ++ codes "]}\n"
pixel_in Table output asked pixel histories =
    codes "pixel (" ++ decimal asked.x ++ codes ", " ++ decimal asked.y ++ codes ")\n" ++ histories ++ value_table output pixel

-- The text of a report of a pixel, with the histories of its samples.
abbrev pub pixel_text : Output → Asked → Pixel → List ℕ → List ℕ
pixel_text output asked pixel histories = pixel_in asked.form output asked pixel histories
