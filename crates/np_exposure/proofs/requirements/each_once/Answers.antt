use Rattle.np_exposure.proofs.MentionLemmas.{each_once-known, each_once-new}
use Rattle.np_exposure.proofs.requirements.each_once.Goals as goal

pub loop-mention-preserved-in-Continue-1 : goal.loop-mention-preserved-in-Continue-1
loop-mention-preserved-in-Continue-1 c =
    each_once-new c.loop-mention.yielded c.loop-mention.made.items c.deref.result.now c.push.new.self.items c.in-Some.mention c.loop-mention.invariant c.deref.ensures.value c.if-not-is_known.ensures
    c.in_ok-push.ensures.items

pub loop-mention-preserved : goal.loop-mention-preserved
loop-mention-preserved c =
    each_once-known c.loop-mention.yielded c.loop-mention.made.items c.deref.result.now c.in-Some.mention c.loop-mention.invariant c.deref.ensures.value c.if-not-is_known.ensures
