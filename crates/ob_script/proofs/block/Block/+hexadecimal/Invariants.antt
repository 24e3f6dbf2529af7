use Rattle.ob_script.proofs.block.Block.+hexadecimal.Given as goal

abbrev pub decreases-hexadecimal : goal.decreases-hexadecimal
decreases-hexadecimal l = l.number
