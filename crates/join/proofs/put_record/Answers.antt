-- `join::put_record` meets its contract: its three parts stand one after the other. Assumes nothing.
use Rattle.join.proofs.Records.{pre_fits, post_fits, record_put}
use Rattle.join.proofs.put_record.Goals as goal

pub shift-shifted_pre-requires : goal.shift-shifted_pre-requires
shift-shifted_pre-requires c = pre_fits _ _ c.requires.0 c.args.t _ c.requires.1 c.u64_at-pre.ensures

pub shift-shifted_post-requires : goal.shift-shifted_post-requires
shift-shifted_post-requires c = post_fits _ _ c.requires.0 c.args.t _ c.requires.1 c.u64_at-post.ensures

pub returns : goal.returns
returns c =
    record_put c.args.places c.args.second.now c.args.room.now c.args.at c.args.t
    c.u64_at-pre.ensures c.u64_at-post.ensures c.shift-shifted_pre.ensures c.shift-shifted_post.ensures
    c.put_bytes.ensures c.put_bytes-2.ensures c.copy.ensures
