use Rattle.ob_script.proofs.Cited.{◌≡◌, ◌<◌, ◌^◌, drop, list_all, is_ascii_hexdigit, digits_value, digits_value_after}
use Rattle.ob_script.proofs.rights.hex_of.Given as goal

abbrev pub invariant-loop-byte : goal.invariant-loop-byte
invariant-loop-byte l = record {
  digits : list_all is_ascii_hexdigit (drop l.byte-index l.digits) ≡ list_all is_ascii_hexdigit l.digits;
  value : digits_value_after 16 l.value (drop l.byte-index l.digits) ≡ digits_value 16 l.digits;
  at_most : l.value < 16 ^ l.byte-index;
}
