-- What a host keeps at objects, threads and processes. No step depends on it.
use Rattle.std.specs.Prelude.{ℕ, ◌+◌, ◌<◌, ◌^◌, ◌==◌, ◌&&◌, Bool, List, [], if◌then◌else◌, length, slice_index_or, slice_set}
use Rattle.std.specs.Int.{w32, w64, to_le_bytes}
use Rattle.ob_codec.specs.Reading.{Read, as_at, both_at, list_at, number_at}
use Rattle.ob_codec.specs.Spelling.{BothFit, FewFit, both, list}
use Rattle.least.specs.Padded.{padded}
use Rattle.pin_core.specs.declared.id.Id.{Id}
use Rattle.ob_manager.specs.declared.host_data.ObjectData.{ObjectData}
use Rattle.ob_manager.specs.Calls.{Call}
use Rattle.ob_manager.specs.declared.call.CallOf.TheVariants as calls
use Rattle.ob_manager.specs.declared.reply.Reply.{Reply}
use Rattle.ob_manager.specs.declared.reply.Reply.TheVariants.{Spawned, Started}

-- by slot, by thread and by process, as far as something was kept; 0 behind that
pub record HostData : Type 0 where
  pub objects : List ObjectData
  pub threads : List ℕ
  pub processes : List ℕ

abbrev pub no_data : HostData
no_data = record { objects = []; threads = []; processes = [] }

-- no object has the generation 0
abbrev pub none_at : ObjectData
none_at = record { generation = 0; value = 0 }

-- what is kept at the object of a slot, if its generation is the object's
abbrev pub data_of : ℕ → ObjectData → ℕ
data_of generation kept = if kept.generation == generation then kept.value else 0

abbrev pub object_data : HostData → Id → ℕ
object_data d id = data_of id.generation (slice_index_or d.objects id.slot none_at)

abbrev pub thread_data : HostData → ℕ → ℕ
thread_data d thread = slice_index_or d.threads thread 0

abbrev pub process_data : HostData → ℕ → ℕ
process_data d process = slice_index_or d.processes process 0

abbrev pub with_object_data : HostData → Id → ℕ → HostData
with_object_data d id value = record d {
  objects = slice_set (padded none_at (id.slot + 1) d.objects) id.slot (record { generation = id.generation; value = value });
}

abbrev pub with_thread_data : HostData → ℕ → ℕ → HostData
with_thread_data d thread value = record d { threads = slice_set (padded 0 (thread + 1) d.threads) thread value }

abbrev pub with_process_data : HostData → ℕ → ℕ → HostData
with_process_data d process value = record d { processes = slice_set (padded 0 (process + 1) d.processes) process value }

-- what begins has 0
abbrev pub data_begun : Reply → HostData → HostData
data_begun (Spawned process thread) d = record d {
  threads = slice_set d.threads thread 0;
  processes = slice_set d.processes process 0;
}
data_begun (Started thread) d = record d { threads = slice_set d.threads thread 0 }
data_begun reply d = d

-- by three calls something begins
abbrev pub data_after : Call → Reply → HostData → HostData
data_after (calls.Spawn session) reply d = data_begun reply d
data_after (calls.Child thread inherit) reply d = data_begun reply d
data_after (calls.StartThread process) reply d = data_begun reply d
data_after call reply d = d

-- as bytes: the three lists, each with its length in four bytes
abbrev pub kept_parts : ObjectData → ℕ × ℕ
kept_parts kept = (kept.generation, kept.value)

abbrev pub kept_of : ℕ × ℕ → ObjectData
kept_of p = record { generation = p.0; value = p.1 }

abbrev pub kept_text : ObjectData → List ℕ
kept_text kept = both (to_le_bytes w32) (to_le_bytes w64) (kept_parts kept)

abbrev pub kept_at : List ℕ → Read ObjectData
kept_at = as_at kept_of (both_at (number_at w32) (number_at w64))

abbrev pub KeptFits : ObjectData → Type 0
KeptFits kept = BothFit (λ n. n < 2 ^ 32) (λ n. n < 2 ^ 64) (kept_parts kept)

abbrev pub Lists : Type 0
Lists = List ObjectData × (List ℕ × List ℕ)

abbrev pub data_parts : HostData → Lists
data_parts d = (d.objects, (d.threads, d.processes))

abbrev pub data_of_parts : Lists → HostData
data_of_parts p = record { objects = p.0; threads = p.1.0; processes = p.1.1 }

abbrev pub data_text : HostData → List ℕ
data_text d = both (list kept_text) (both (list (to_le_bytes w64)) (list (to_le_bytes w64))) (data_parts d)

-- no list is longer than its numbers can be
abbrev pub most : ℕ
most = 4294967295

abbrev pub data_at : List ℕ → Read HostData
data_at = as_at data_of_parts (both_at (list_at most kept_at)
    (both_at (list_at most (number_at w64)) (list_at most (number_at w64))))

abbrev pub DataFits : HostData → Type 0
DataFits d = BothFit (FewFit most KeptFits)
    (BothFit (FewFit most (λ n. n < 2 ^ 64)) (FewFit most (λ n. n < 2 ^ 64))) (data_parts d)

-- nothing was ever kept
abbrev pub is_empty : HostData → Bool
is_empty d = (length d.objects == 0) && ((length d.threads == 0) && (length d.processes == 0))
