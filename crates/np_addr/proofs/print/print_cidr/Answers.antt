use Rattle.std.proofs.Common.{lit<}
use Rattle.np_addr.proofs.CanonicalLemmas.{cidr_of-cidr_text}
use Rattle.np_addr.proofs.print.print_cidr.Goals as goal

pub returns-clause-reads_again : goal.returns-clause-reads_again
returns-clause-reads_again c = λ well.
    rw (c.from_string.ensures, c.in_ok-push_decimal.ensures, c.in_ok-push.ensures.bytes, c.in_ok-push.ensures.ascii (lit< tt), c.in_ok-text.ensures.canonical, c.bits_of.ensures, c.base_of.ensures)
    (cidr_of-cidr_text c.args.cidr (rw c.base_of.ensures at c.in_ok-text.ensures.fits) well)
