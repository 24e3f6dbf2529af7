use Rattle.ob_store.proofs.Cited.{padded, no_tag, tags_in, ◌≡◌, ◌-◌, ◌+◌, ◌≤◌, length, vec_capacity}
use Rattle.ob_store.proofs.object_headers.reach_label.Given as goal

abbrev pub invariant-loop-labels : goal.invariant-loop-labels
invariant-loop-labels l = record {
  value : padded no_tag (l.slot + 1) (tags_in l.labels.items l.names.items)
      ≡ padded no_tag (l.slot + 1) (tags_in l.initial.labels.items l.initial.names.items);
  more : length l.initial.labels.items ≤ length l.labels.items;
  named : length l.names.items ≡ length l.labels.items;
  room : vec_capacity l.labels ≡ vec_capacity l.initial.labels;
  room_for_names : vec_capacity l.names ≡ vec_capacity l.initial.names;
}

abbrev pub decreases-loop-labels : goal.decreases-loop-labels
decreases-loop-labels l = l.slot + 1 - length l.labels.items
