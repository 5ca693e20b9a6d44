pub mod FsMoments
