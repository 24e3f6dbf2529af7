use Rattle.ob_script.proofs.Cited.{◌≡◌, ◌<◌, ◌^◌, drop, list_all, is_ascii_digit, value_after, value_of}
use Rattle.ob_script.proofs.numbers.long_of.Given as goal

abbrev pub invariant-loop-byte : goal.invariant-loop-byte
invariant-loop-byte l = record {
  digits : list_all is_ascii_digit (drop l.byte-index l.word) ≡ list_all is_ascii_digit l.word;
  value : value_after l.value (drop l.byte-index l.word) ≡ value_of l.word;
  at_most : l.value < 10 ^ l.byte-index;
}
