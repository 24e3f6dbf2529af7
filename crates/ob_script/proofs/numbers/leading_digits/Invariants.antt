use Rattle.ob_script.proofs.Cited.{◌≡◌, ◌<◌, ◌^◌, take, true, list_all, is_ascii_digit, value_of}
use Rattle.ob_script.proofs.numbers.leading_digits.Given as goal

abbrev pub invariant-loop-count : goal.invariant-loop-count
invariant-loop-count l = record {
  digits : list_all is_ascii_digit (take l.count l.text) ≡ true;
  value : value_of (take l.count l.text) ≡ l.value;
  at_most : l.value < 10 ^ l.count;
}
