-- The definitions of this crate, each file behind those that it uses; `python3 -m tools.definitions` writes these lines.
--
-- Args.antt
--   option_rule: An option `--name VALUE` with this default.
--   trirast_app: The command `trirast [--tile SIDE] [--workers NUMBER]`.
--   matched: The value of an option in the matches that clap gives for the arguments, its default included.
--   tile_text: The text of a tile size, in decimal digits.
--   IsNumberText: The text is the number in decimal digits, perhaps behind a plus sign.
--   line_fault: What an error of clap means for the program: out of memory, help, or refused arguments.
--   AsksForHelp: The arguments ask for help: clap returns it for them.
--   status_of: The program's status for arguments that give no options.
--
-- Refusal.antt
--   refusal_line: The line that the program writes if its arguments are refused.
--   WritesLine: What was written is the line, or a beginning of it if the writer failed.
--   WritesSomeLine: What was written is a line that ends in a line feed, or a beginning of it if the writer failed.

pub mod Args
pub mod Refusal
