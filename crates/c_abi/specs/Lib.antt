-- The definitions of this crate, each file behind those that it uses; `python3 -m tools.definitions` writes these lines.
--
-- Statuses.antt
--   status_number: The number of each status in C.
--   status_text: The line of each status, as the header and the bindings have it too.
--
-- Errors.antt
--   list_fault: What is wrong with a list, by its numbers.
--   of_status: An error of which the status says all.
--   of_list: The error of what is no draw list.
--   of_batch: The error of a batch that cannot be drawn.
--   IsOfFault: The error of a list that was not read.
--   index_or_none: An index as the caller gets it: the greatest number of 64 bits stands for none.
--   alone: What the caller gets if the status says all; with the status 0 there is no error.
--   reported: What the caller gets if a call has this status, and this is wrong with its list or batch.
--   error_of: What the caller gets of an error.
--
-- Calls.antt
--   IsFaultOf: The error names what is wrong with the list or the batch if the status is that of one, and then its first error.
--   IsFirstError: The error is that of the first check that fails.
--   IsCall: The result is right: each check holds, and so does P of what was found, or the error is that of the first check that fails.
--   IsReported: The status and the error that the caller gets of a call that ended so.
--   IsReport: The status and the error are those of the first check that fails, and none if each holds.
--   IsStatus: The status is that of the first check that fails, and none if each holds: for a call that has no error beside its status.
--
-- Sizes.antt
--   IsOwnSize: The size of a struct, as the caller has it, is the library's own, or 0 for just that.

pub mod Statuses
pub mod Errors
pub mod Calls
pub mod Sizes
