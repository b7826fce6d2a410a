use Rattle.std.proofs.Common.{◌≡◌, ◌≤◌, ◌-◌, length, false, take, drop}
use Rattle.tcltext.proofs.Pairing.{keep_all, pairing}
use Rattle.tcltext.proofs.braces.split.Given as goal

abbrev pub invariant-loop-len : goal.invariant-loop-len
invariant-loop-len l = record {
  found : keep_all (take l.len l.text) (pairing l.open l.hidden (drop l.len l.text))
      ≡ pairing 0 false l.text;
  within : l.len ≤ length l.text;
  fewer : l.open ≤ l.len;
}

abbrev pub decreases-loop-len : goal.decreases-loop-len
decreases-loop-len l = length l.text - l.len
