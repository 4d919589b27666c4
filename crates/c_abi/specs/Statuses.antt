-- The numbers and texts of statuses.
use Rattle.std.specs.Prelude.{ℕ, List, codes}
use Rattle.c_abi.specs.declared.status.Status.{Status}
-- generated: names
use Rattle.c_abi.specs.declared.status.Status.TheVariants.{BadList, InputTooLong, OutOfMemory, BufferTooSmall, BadTileSize, BadTileRows, BadStructSize, BadCanvas, BadMemory, BadFormat, BadSample, BadPosition, BadPixel, BadTriangle, BadBatch, BadStride, BadTile, BadIndexSize}

-- end of names

-- The number of each status in C. It never changes its meaning.
abbrev pub status_number : Status → ℕ
-- generated: numbers
status_number BadList = 1
status_number InputTooLong = 2
status_number OutOfMemory = 3
status_number BufferTooSmall = 4
status_number BadTileSize = 5
status_number BadTileRows = 6
status_number BadStructSize = 7
status_number BadCanvas = 8
status_number BadMemory = 9
status_number BadFormat = 10
status_number BadSample = 11
status_number BadPosition = 12
status_number BadPixel = 13
status_number BadTriangle = 14
status_number BadBatch = 15
status_number BadStride = 16
status_number BadTile = 17
status_number BadIndexSize = 18

-- end of numbers

-- The line of each status, as the header and the bindings have it too.
abbrev pub status_text : Status → List ℕ
-- generated: texts
status_text BadList = codes "not a draw list"
status_text InputTooLong = codes "input too long"
status_text OutOfMemory = codes "out of memory"
status_text BufferTooSmall = codes "buffer too small"
status_text BadTileSize = codes "no such tile size"
status_text BadTileRows = codes "no such tile rows"
status_text BadStructSize = codes "wrong struct size"
status_text BadCanvas = codes "no such canvas"
status_text BadMemory = codes "wrong memory"
status_text BadFormat = codes "no such format"
status_text BadSample = codes "no such sample"
status_text BadPosition = codes "position out of range"
status_text BadPixel = codes "no such pixel"
status_text BadTriangle = codes "no such triangle"
status_text BadBatch = codes "wrong batch"
status_text BadStride = codes "wrong stride"
status_text BadTile = codes "no such tile"
status_text BadIndexSize = codes "no such index size"

-- end of texts
