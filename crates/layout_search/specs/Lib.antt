pub mod Arranged
pub mod Counted
pub mod Improves
pub mod Inside
pub mod Ready
pub mod Seen
pub mod Totals
pub mod Trial
