-- The definitions of this crate, each file behind those that it uses; `python3 -m tools.definitions` writes these lines.
--
-- Program.antt
--   usage_line: The line that the program writes if its arguments ask for help.
--   EndsByFault: There is an error, of a run with some tile size, that explains what the input gave and what was written.

pub mod Program
