-- The definitions of this crate, each file behind those that it uses; `python3 -m tools.definitions` writes these lines.
--
-- FirstFault.antt
--   Check: A check: whether it fails, and what it then reports.
--   check: A check by whether it fails, and by what it then reports.
--   AllPass: No check fails.
--   IsFirstFault: The error is what a failing check reports, and no check before it fails.
--   first_fault: The error of the first check that fails, as a function: what proofs compute with.
--   reported_as: These checks, each of which reports what f makes of its report.
--
-- Checking.antt
--   Checks: Checks, one after another: what has to hold, and what is reported if it does not.
--   followed_by: The first checks, and then the later ones.
--   reported_as: These checks, each of which reports what f makes of its report.
--   Pass: Each check holds.
--   FirstIs: The first check that does not hold reports this, or an allocation that fails before it.
--   IsJudged: The result is right: each check holds, and so does P of what was found, or what the first failure reports is the error.

pub mod FirstFault
pub mod Checking
