pub mod BucketLaws
pub mod SearchLaws
pub mod SegmentLaws
pub mod SegmentListLaws
pub mod StepLaws
