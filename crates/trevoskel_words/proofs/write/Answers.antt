-- What is copied is as many of the words as either allows.
use Rattle.trevoskel_words.proofs.Front.{front-most}
use Rattle.trevoskel_words.proofs.write.Goals as goal

pub returns : goal.returns
returns c = rw (c.copy_from_slice.ensures.after, c.min-room.ensures) (front-most c.args.words.now c.args.res.now)
