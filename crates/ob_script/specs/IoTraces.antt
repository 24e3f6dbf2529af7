-- What a device moved so far.
use Rattle.std.specs.Prelude.{ℕ, ◌+◌, Bool, true, false, [], ◌++◌}
use Rattle.ob_script.specs.declared.io_trace.IoTrace.{IoTrace}
use Rattle.ob_script.specs.declared.io_trace.Transfer.{Transfer}

-- no call was made
abbrev pub no_transfer : IoTrace
no_transfer = record { bytes = []; calls = 0; faults = 0; ends = 0 }

abbrev pub one_if : Bool → ℕ
one_if true = 1
one_if false = 0

-- one call more
abbrev pub with_transfer : IoTrace → Transfer → IoTrace
with_transfer io_trace moved = record {
  bytes = io_trace.bytes ++ moved.bytes.now;
  calls = io_trace.calls + 1;
  faults = io_trace.faults + one_if moved.is_fault;
  ends = io_trace.ends + one_if moved.is_end;
}
