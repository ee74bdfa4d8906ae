use Rattle.np_addr.proofs.CanonicalLemmas.{address_of-address_text}
use Rattle.np_addr.proofs.print.print_address.Goals as goal

pub returns-clause-reads_again : goal.returns-clause-reads_again
returns-clause-reads_again c =
    rw (c.from_string.ensures, c.in_ok-text.ensures.canonical) (address_of-address_text c.args.address c.in_ok-text.ensures.fits)
