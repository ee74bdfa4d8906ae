use Rattle.np_addr.proofs.prefix_list.+push_blocks.Given as goal

abbrev pub decreases-push_blocks : goal.decreases-push_blocks
decreases-push_blocks l = l.free
