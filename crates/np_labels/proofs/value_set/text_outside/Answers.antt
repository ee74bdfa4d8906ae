use Rattle.std.proofs.Common.{lit<}
use Rattle.np_labels.proofs.Beyond.{greatest_longer}
use Rattle.np_labels.proofs.value_set.text_outside.Goals as goal

pub returns : goal.returns
returns c =
    rw (c.from_string.ensures, c.in_ok-push.ensures.bytes, c.in_ok-push.ensures.ascii (lit< tt), c.in_ok-text.ensures.ok, c.as_str.ensures)
    (greatest_longer c.args.values.now.keys c.in-Some.greatest.now 97 c.in-Some.ensures.all_up_to)
